-- `parts::check_rows` meets its contract. The loop's invariant: the parent of box i stands at `place`, of its row `row`
-- boxes are left, and what the boxes from i on say is what all of them say, since those before said nothing. The measure
-- is the number of boxes that are left. Assumes nothing.
use mathlib.Core.Path.{◌≡◌}
use Prim.Native.Nat.{◌+◌, ◌-◌, ◌*◌, ◌/◌, ◌≤◌, ◌<◌}
use Rattle.answers.specs.Checks.{each}
use Rattle.parts.specs.Code.Runs.{child_check}
use Rattle.parts.proofs.check_rows.Given as goal

abbrev pub invariant-loop-i : goal.invariant-loop-i
invariant-loop-i l =
    (l.i ≤ l.boxes)
    × (0 < l.row)
    × (l.row ≤ l.fanout)
    × (l.place ≤ l.parents + (l.index + l.i) * l.box_bytes)
    × (l.i < l.boxes → l.place ≡ l.parents + (l.index + l.i) / l.fanout * l.box_bytes)
    × (l.i < l.boxes → l.index + l.i + l.row ≡ ((l.index + l.i) / l.fanout + 1) * l.fanout)
    × (each (child_check l.d l.fanout l.parents l.index l.bytes l.work) l.i (l.boxes - l.i)
    ≡ each (child_check l.d l.fanout l.parents l.index l.bytes l.work) 0 l.boxes)

abbrev pub decreases-loop-i : goal.decreases-loop-i
decreases-loop-i l = l.boxes - l.i
