-- `writer::fill` meets its contract. The invariant: from the level at distance j - 1 on the buffer has what the body has
-- there (`Down`), since it has the leaves at their place. Assumes nothing.
use Prim.Native.Nat.{ℕ, ◌-◌, ◌≤◌}
use mathlib.Core.List.{List}
use Rattle.writer.specs.Code.Rows.{Filling}
use Rattle.writer.proofs.Levels.{Down}
use Rattle.writer.proofs.fill.Given as goal

abbrev pub invariant-loop-j : goal.invariant-loop-j
invariant-loop-j l =
    (1 ≤ l.j)
    × (l.j ≤ l.levels)
    × ((first : List ℕ) → Filling l.description l.tiles l.fanout l.leaves first → Down l.description l.tiles l.fanout l.leaves first 0 l.initial.out
    → Down l.description l.tiles l.fanout l.leaves first (l.j - 1) l.out)
