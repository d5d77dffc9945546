-- `converter::put_box` meets its contract. The invariant: the buffer holds the first i sides, and both places are those
-- of side i. Assumes nothing.
use Prim.Native.Nat.{◌+◌, ◌≤◌}
use mathlib.Core.Path.{◌≡◌}
use lib.ListN.{length}
use lib.Seq.{sets}
use Rattle.description.specs.Description.{side_start}
use Rattle.widened.specs.Widened.{widened_kinds}
use Rattle.converter.proofs.Boxes.{sides_to}
use Rattle.converter.proofs.put_box.Given as goal

abbrev pub invariant-loop-i : goal.invariant-loop-i
invariant-loop-i l =
    (l.i ≤ l.n)
    × (l.from ≡ side_start l.kinds l.i)
    × (l.to ≡ l.at + side_start (widened_kinds l.kinds) l.i)
    × (length l.out ≡ length l.initial.out)
    × (l.out ≡ sets l.initial.out l.at (sides_to l.kinds l.bytes l.i))
