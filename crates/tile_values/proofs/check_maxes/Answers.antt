-- `tile_values::check_maxes` meets its contract: the maxes' own refusal, and else what the order says. Assumes nothing.
use Rattle.std.proofs.Common.{sym, ◌∙◌}
use Rattle.std.proofs.lemmas.Result.{err_from_is_err_and}
use Rattle.answers.proofs.Told.{stops, ok-clear}
use Rattle.tile_values.specs.Values.{maxes_refusal}
use Rattle.tile_values.proofs.Values.{order-decides}
use Rattle.tile_values.proofs.check_maxes.Goals as goal

pub returns-in_err-check_values : goal.returns-in_err-check_values
unfolding maxes_refusal
returns-in_err-check_values c =
    let p = err_from_is_err_and c.from_residual.result c.from_residual.ensures.1 in
    rw (p.1, p.2) (stops c.check_values.ensures _ c.in_err-check_values.was)

pub returns : goal.returns
returns c = c.check_order.ensures ∙ sym (order-decides _ _ _ _ (ok-clear c.check_values.ensures c.in_ok-check_values.was))
