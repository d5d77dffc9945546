-- `rtree::check_counts` meets its contract. The invariant: what the levels from here down say is what all of them say.
-- Assumes nothing.
use Prim.Native.Nat.{◌-◌}
use mathlib.Core.Path.{◌≡◌}
use Rattle.answers.specs.Checks.{each}
use Rattle.rtree.specs.Code.Shaped.{table_count_refusal, table_refusal}
use Rattle.rtree.proofs.check_counts.Given as goal

abbrev pub invariant-loop-i : goal.invariant-loop-i
invariant-loop-i l =
    each (λ i. table_count_refusal l.body l.table (l.levels - 1 - i)) l.i (l.levels - l.i) ≡ table_refusal l.body l.table l.levels
