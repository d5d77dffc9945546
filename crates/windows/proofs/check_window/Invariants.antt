-- `windows::check_window` meets its contract. The loop's invariant: what all the dimensions say is what those from i on say, since the ones before
-- said nothing.
-- Assumes nothing.
use Rattle.std.proofs.Common.{◌≡◌, ◌-◌}
use Rattle.answers.specs.Checks.{each}
use Rattle.boxes.proofs.Windows.{side_told}
use Rattle.windows.proofs.check_window.Given as goal

abbrev pub invariant-loop-i : goal.invariant-loop-i
invariant-loop-i l =
    let g = side_told l.description.kinds l.window.sides in
    each g 0 l.n ≡ each g l.i (l.n - l.i)
