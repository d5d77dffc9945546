-- `writer::put_box` meets its contract. The invariant: the buffer holds the first i sides of the parent. Assumes
-- nothing.
use Prim.Native.Nat.{◌-◌, ◌≤◌}
use mathlib.Core.Path.{◌≡◌}
use lib.ListN.{length, drop}
use lib.Seq.{sets}
use Rattle.answers.specs.Runs.{join}
use Rattle.description.specs.Description.{side_start}
use Rattle.boxes.specs.Least.{least_side}
use Rattle.leaves.specs.Code.Sound.{box_in}
use Rattle.writer.proofs.put_box.Given as goal

abbrev pub invariant-loop-i : goal.invariant-loop-i
invariant-loop-i l =
    (l.i ≤ l.n)
    × (l.side ≡ side_start l.kinds l.i)
    × (length l.out ≡ length l.initial.out)
    × (l.out ≡ sets l.initial.out l.at (join (least_side l.kinds l.n (box_in (drop l.start l.initial.out) (side_start l.kinds l.n)) l.first (l.count - 1)) 0 l.i))
