-- `parts::take_boxes` meets its contract. The loop's invariant: the first i boxes are taken. The measure is the number of
-- those that are left. Assumes nothing.
use Prim.Native.Nat.{◌-◌, ◌*◌, ◌≤◌, ◌<◌}
use lib.ListN.{take}
use Rattle.parts.specs.Code.Steps.{TakesRun}
use Rattle.parts.proofs.take_boxes.Given as goal

abbrev pub invariant-loop-i : goal.invariant-loop-i
invariant-loop-i l =
    (l.i ≤ l.boxes) × (0 < l.most) × TakesRun l.parts l.initial.c l.initial.work (take (l.i * l.box_bytes) l.bytes) l.i l.c l.work

abbrev pub decreases-loop-i : goal.decreases-loop-i
decreases-loop-i l = l.boxes - l.i
