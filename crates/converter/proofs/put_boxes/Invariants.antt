-- `converter::put_boxes` meets its contract. The invariant: the buffer holds the first k boxes. Assumes nothing.
use Prim.Native.Nat.{◌≤◌}
use mathlib.Core.Path.{◌≡◌}
use lib.ListN.{length}
use lib.Seq.{sets}
use Rattle.converter.specs.Code.Levels.{boxes_from}
use Rattle.converter.proofs.put_boxes.Given as goal

abbrev pub invariant-loop-k : goal.invariant-loop-k
invariant-loop-k l =
    (l.k ≤ l.count) × (length l.out ≡ length l.initial.out) × (l.out ≡ sets l.initial.out l.at (boxes_from l.description l.body l.from l.k))
