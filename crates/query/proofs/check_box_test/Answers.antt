-- `query::check_box_test` meets its contract: the three checks in turn. Assumes nothing.
use Rattle.std.proofs.Common.{sym, ◌∙◌}
use Rattle.answers.specs.Told.{number_of}
use Rattle.answers.proofs.Told.{stops, passes, ends, exits}
use Rattle.query.specs.BoxTest.{box_test_refusal_by}
use Rattle.query.proofs.check_box_test.Goals as goal

pub returns-in_err-check : goal.returns-in_err-check
unfolding box_test_refusal_by
returns-in_err-check c = exits _ _ c.from_residual.ensures.1 (stops c.check.ensures _ c.in_err-check.was)

pub returns-in_err-check_window : goal.returns-in_err-check_window
unfolding box_test_refusal_by
returns-in_err-check_window c =
    exits _ _ c.from_residual-in_err-check_window.ensures.1
    (stops c.check_window.ensures _ c.in_err-check_window.was ∙ sym (passes c.check.ensures _ c.in_ok-check.was))

pub returns : goal.returns
unfolding box_test_refusal_by number_of
returns c =
    let bytes = rw c.box_bytes.ensures at c.when.ensures in
    bytes
    ∙ sym (passes c.check.ensures _ c.in_ok-check.was ∙ passes c.check_window.ensures _ c.in_ok-check_window.was ∙ ends _ _ bytes)
