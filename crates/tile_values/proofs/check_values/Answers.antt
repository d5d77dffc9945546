-- `tile_values::check_values` meets its contract: what stands before the values ends the check, and else they decide.
-- Assumes nothing.
use Rattle.std.proofs.Common.{sym, ◌∙◌, arith}
use Rattle.std.proofs.lemmas.Result.{err_from_is_err_and}
use Rattle.answers.proofs.Told.{stops, ok-clear}
use Rattle.tile_values.specs.Values.{values_refusal}
use Rattle.tile_values.proofs.Values.{fixed, values-decide}
use Rattle.tile_values.proofs.check_values.Goals as goal

pub returns-in_err-check_fixed : goal.returns-in_err-check_fixed
unfolding values_refusal
returns-in_err-check_fixed c =
    let p = err_from_is_err_and c.from_residual.result c.from_residual.ensures.1 in
    rw (p.1, p.2) (stops c.check_fixed.ensures _ c.in_err-check_fixed.was)

pub check_nans-requires : goal.check_nans-requires
check_nans-requires c =
    let known = fixed _ _ _ (ok-clear c.check_fixed.ensures c.in_ok-check_fixed.was) in
    omega (arith, known.layout.bytes)

pub returns : goal.returns
returns c = c.check_nans.ensures ∙ sym (values-decide _ _ _ (ok-clear c.check_fixed.ensures c.in_ok-check_fixed.was))
