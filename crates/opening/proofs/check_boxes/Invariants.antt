-- `opening::check_boxes` meets its contract. The loop's invariant: what the levels from l on say is what all of them say,
-- since the ones before said nothing. Assumes nothing.
use mathlib.Core.Path.{◌≡◌}
use Prim.Native.Nat.{◌-◌}
use Rattle.answers.specs.Checks.{each}
use Rattle.opening.specs.Code.Stored.{table_refusal}
use Rattle.opening.proofs.check_boxes.Given as goal

abbrev pub invariant-loop-l : goal.invariant-loop-l
invariant-loop-l l =
    each (λ i. table_refusal l.description l.body l.table l.fanout (l.top - i)) l.l (l.top - l.l)
    ≡ each (λ i. table_refusal l.description l.body l.table l.fanout (l.top - i)) 0 l.top
