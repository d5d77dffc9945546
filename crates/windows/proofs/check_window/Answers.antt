-- `windows::check_window` meets its contract. Assumes nothing.
use Rattle.std.proofs.Common.{sym, ap, ◌∙◌}
use Rattle.answers.specs.Checks.{each}
use Rattle.answers.specs.Told.{number_of}
use Rattle.answers.proofs.Told.{stops, passes, ends, passes-left, stops-left, done-left, exits}
use Rattle.boxes.specs.Windows.{window_refusal}
use Rattle.boxes.proofs.Windows.{side_told}
use Rattle.windows.proofs.check_window.Goals as goal

pub returns-in_err-when : goal.returns-in_err-when
unfolding window_refusal number_of
returns-in_err-when c = exits _ _ c.from_residual.ensures.1 (stops c.when.ensures _ c.in_err-when.was)

pub returns-in_err-check_side : goal.returns-in_err-check_side
unfolding window_refusal number_of
returns-in_err-check_side c =
    let a = c.args in
    let g = side_told a.description.kinds a.window.sides in
    let here = stops-left g _ _ c.loop-i-test.true c.check_side.ensures c.in_err-check_side.was
    ∙ sym c.loop-i.invariant
    ∙ ap (each g 0) c.sides_of-n.ensures in
    exits _ _ c.from_residual-in_err-check_side.ensures.1 (here ∙ sym (passes c.when.ensures _ c.in_ok-when.was ∙ ends _ _ here))

pub loop-i-preserved : goal.loop-i-preserved
loop-i-preserved c =
    let a = c.args in
    let g = side_told a.description.kinds a.window.sides in
    c.loop-i.invariant ∙ passes-left g _ _ c.loop-i-test.true c.check_side.ensures c.in_ok-check_side.was

pub returns : goal.returns
unfolding window_refusal number_of
returns c =
    let a = c.args in
    let g = side_told a.description.kinds a.window.sides in
    let here = done-left g _ _ c.loop-i-test.false ∙ sym c.loop-i.invariant ∙ ap (each g 0) c.sides_of-n.ensures in
    here ∙ sym (passes c.when.ensures _ c.in_ok-when.was ∙ ends _ _ here)
