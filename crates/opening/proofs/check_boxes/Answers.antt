-- `opening::check_boxes` meets its contract: the first box, and then level by level. Assumes nothing.
use mathlib.Core.Path.{sym, ◌∙◌}
use native.Mathlib.Omega.{arith}
use Rattle.answers.specs.Refusals.{none}
use Rattle.answers.specs.Checks.{otherwise}
use Rattle.answers.specs.Told.{told, number_of}
use Rattle.answers.proofs.Runs.{over-start}
use Rattle.answers.proofs.Checks.{none_left}
use Rattle.answers.proofs.Told.{goes_on, halts}
use Rattle.rtree.proofs.Left.{left, past-told, stop-told}
use Rattle.opening.proofs.check_boxes.Goals as goal

pub returns-in_err-check_row : goal.returns-in_err-check_row
unfolding number_of
returns-in_err-check_row c = left _ _ c.from_residual.ensures.1 ∙ halts c.check_row.ensures _ c.in_err-check_row.was

pub loop-l-init : goal.loop-l-init
loop-l-init c = sym (over-start otherwise none _ _)

pub returns-in_err-check_level : goal.returns-in_err-check_level
unfolding number_of
returns-in_err-check_level c =
    left _ _ c.from_residual-in_err-check_level.ensures.1
    ∙ stop-told _ _ _ _ c.loop-l-test.true c.check_level.ensures c.in_err-check_level.was
    ∙ c.loop-l.invariant
    ∙ sym (goes_on c.check_row.ensures _ c.in_ok-check_row.was)

pub loop-l-preserved : goal.loop-l-preserved
loop-l-preserved c = sym (past-told _ _ _ _ c.loop-l-test.true c.check_level.ensures c.in_ok-check_level.was) ∙ c.loop-l.invariant

pub returns : goal.returns
unfolding told number_of
returns c = sym (goes_on c.check_row.ensures _ c.in_ok-check_row.was ∙ sym c.loop-l.invariant ∙ none_left _ _ _ (omega arith))
