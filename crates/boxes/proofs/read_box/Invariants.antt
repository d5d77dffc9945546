-- `boxes::read_box` meets its contract. The loop's invariant: the place is where dimension i starts, and the sides are those of the box of the
-- first i dimensions.
-- Assumes nothing.
use Rattle.std.proofs.Common.{◌≡◌}
use Rattle.description.specs.Description.{side_start}
use Rattle.boxes.specs.Boxes.{box_of}
use Rattle.boxes.proofs.read_box.Given as goal

abbrev pub invariant-loop-i : goal.invariant-loop-i
invariant-loop-i l = (l.at ≡ side_start l.kinds l.i) × (l.sides ≡ box_of l.kinds l.i l.bytes)
