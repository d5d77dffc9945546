-- `query::test_box` meets its contract. The loop's invariant: the place is where dimension i starts; the dimensions before i met, so the box meets where those
-- from i on do; and what was read, with what would be read of those, is what the definition says.
-- Assumes nothing.
use Rattle.std.proofs.Common.{◌≡◌, ◌≤◌, true}
use Rattle.description.specs.Description.{side_start}
use Rattle.boxes.proofs.Boxes.{Left}
use Rattle.boxes.proofs.ReadTo.{ReadLeft}
use Rattle.query.specs.Code.Walking.{meets_at}
use Rattle.query.proofs.test_box.Given as goal

abbrev pub invariant-loop-i : goal.invariant-loop-i
invariant-loop-i l =
    let a = l.asked in
    let g = meets_at a.kinds a.ends l.bytes in
    (l.i ≤ a.dimensions)
    × (l.at ≡ side_start a.kinds l.i)
    × (l.tested.meets ≡ true)
    × (l.tested.read ≤ l.i)
    × Left g a.dimensions l.i
    × ReadLeft g a.dimensions l.tested.read l.i
