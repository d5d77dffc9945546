-- `writer::put_rows` meets its contract. The invariant: the buffer holds the first k parents. Assumes nothing.
use Prim.Native.Nat.{◌≤◌}
use mathlib.Core.Path.{◌≡◌}
use lib.ListN.{length, drop}
use lib.Seq.{sets}
use Rattle.answers.specs.Runs.{join}
use Rattle.writer.specs.Code.Rows.{parent_of}
use Rattle.writer.proofs.put_rows.Given as goal

abbrev pub invariant-loop-k : goal.invariant-loop-k
invariant-loop-k l =
    (l.k ≤ l.parents)
    × (length l.out ≡ length l.initial.out)
    × (l.out ≡ sets l.initial.out l.start (join (parent_of l.description l.fanout (drop l.next l.initial.out) l.count) 0 l.k))
