-- `tile_values::check_fixed` meets its contract: the layout's refusal ends the check, and else the buffer size decides.
-- Assumes nothing.
use Rattle.std.proofs.Common.{◌+◌, ◌*◌, ◌^◌, ◌<◌, sym, ◌∙◌, arith}
use Rattle.std.proofs.lemmas.Result.{err_from_is_err_and}
use Rattle.answers.specs.Told.{number_of}
use Rattle.answers.proofs.Told.{stops, ok-clear}
use Rattle.tile_metadata.proofs.Bodies.{laid, end_fits}
use Rattle.tile_values.specs.Values.{fixed_refusal}
use Rattle.tile_values.proofs.Values.{size-decides}
use Rattle.tile_values.proofs.check_fixed.Goals as goal

pub returns-in_err-check_layout : goal.returns-in_err-check_layout
unfolding fixed_refusal
returns-in_err-check_layout c =
    let p = err_from_is_err_and c.from_residual.result c.from_residual.ensures.1 in
    rw (p.1, p.2) (stops (rw c.width_of-width.ensures at c.check_layout.ensures) _ c.in_err-check_layout.was)

pub overflow_mul-end : goal.overflow_mul-end
overflow_mul-end c =
    let layout = laid _ _ _ (ok-clear c.check_layout.ensures c.in_ok-check_layout.was) in
    let fits : 16 + c.width_of-width.result * c.args.tiles < 2 ^ 64 = end_fits c.width_of-width.result c.args.tiles (omega arith) layout.most in
    omega arith

pub overflow_add-end : goal.overflow_add-end
overflow_add-end c =
    let layout = laid _ _ _ (ok-clear c.check_layout.ensures c.in_ok-check_layout.was) in
    let fits : 16 + c.width_of-width.result * c.args.tiles < 2 ^ 64 = end_fits c.width_of-width.result c.args.tiles (omega arith) layout.most in
    omega arith

pub returns : goal.returns
unfolding number_of
returns c =
    let e = c.width_of-width.ensures in
    c.when.ensures
    ∙ rw (c.u64_at-size.ensures, e) (sym (size-decides _ _ _ (ok-clear (rw e at c.check_layout.ensures) c.in_ok-check_layout.was)))
