-- `boxes::check_ranges` meets its contract. The loop's invariant: the place is where dimension i starts, and what all the ranges say is what
-- those from i on say, since the ones before said nothing.
-- Assumes nothing.
use Rattle.std.proofs.Common.{◌≡◌, ◌-◌}
use Rattle.answers.specs.Checks.{each}
use Rattle.description.specs.Description.{side_start}
use Rattle.boxes.specs.Boxes.{ranges_refusal}
use Rattle.boxes.proofs.Walking.{told_at}
use Rattle.boxes.proofs.check_ranges.Given as goal

abbrev pub invariant-loop-i : goal.invariant-loop-i
invariant-loop-i l =
    (l.at ≡ side_start l.kinds l.i) × (ranges_refusal l.kinds l.n l.bytes 0 ≡ each (told_at l.kinds l.bytes 0) l.i (l.n - l.i))
