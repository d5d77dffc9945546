-- `query::check_asked` meets its contract: the three checks in turn. Assumes nothing.
use Rattle.std.proofs.Common.{sym, ◌∙◌}
use Rattle.answers.specs.Told.{number_of}
use Rattle.answers.proofs.Told.{stops, passes, ends, exits}
use Rattle.query.specs.Query.{asked_refusal_by}
use Rattle.query.proofs.check_asked.Goals as goal

pub returns-in_err-check : goal.returns-in_err-check
unfolding asked_refusal_by
returns-in_err-check c = exits _ _ c.from_residual.ensures.1 (stops c.check.ensures _ c.in_err-check.was)

pub returns-in_err-when : goal.returns-in_err-when
unfolding asked_refusal_by number_of
returns-in_err-when c =
    let tiles = rw c.tiles_outside.ensures at c.when.ensures in
    exits _ _ c.from_residual-in_err-when.ensures.1 (stops tiles _ c.in_err-when.was ∙ sym (passes c.check.ensures _ c.in_ok-check.was))

pub returns : goal.returns
unfolding asked_refusal_by number_of
returns c =
    let tiles = rw c.tiles_outside.ensures at c.when.ensures in
    let w = c.check_window.ensures in
    w ∙ sym (passes c.check.ensures _ c.in_ok-check.was ∙ passes tiles _ c.in_ok-when.was ∙ ends _ _ w)
