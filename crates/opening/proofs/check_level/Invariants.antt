-- `opening::check_level` meets its contract. The loop's invariant: what the rows from k on say is what all of them say,
-- since the ones before said nothing. Assumes nothing.
use mathlib.Core.Path.{◌≡◌}
use Prim.Native.Nat.{◌-◌}
use Rattle.answers.specs.Checks.{each}
use Rattle.opening.specs.Code.Stored.{children_of, rows_refusal}
use Rattle.opening.proofs.check_level.Given as goal

abbrev pub invariant-loop-k : goal.invariant-loop-k
invariant-loop-k l =
    each (children_of l.description l.body l.fanout l.start l.next l.count) l.k (l.parents - l.k)
    ≡ rows_refusal l.description l.body l.fanout l.start l.parents l.next l.count
