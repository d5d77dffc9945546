-- `parts::take` meets its contract. The loop's invariant: what holds of the bytes before the rest is what holds of the
-- body's first bytes, and nothing is refused for good. The measure is how many are left. Assumes nothing.
use mathlib.Core.Path.{◌≡◌}
use mathlib.Core.List.{List}
use Prim.Native.Nat.{ℕ, ◌+◌, ◌≤◌}
use lib.ListN.{length}
use Rattle.description.specs.declared.Description.{Description}
use Rattle.parts_state.specs.Code.State.{Holds}
use Rattle.parts.specs.Code.Cursor.{with_cursor}
use Rattle.parts.specs.Code.Steps.{SameRoom, Reads}
use Rattle.parts.proofs.take.Given as goal

abbrev pub invariant-loop-rest : goal.invariant-loop-rest
invariant-loop-rest l =
    (l.c.number ≡ 0)
    × SameRoom l.initial.held l.initial.work l.held l.work
    × ((d : Description) (F : ℕ) (footer : List ℕ) (stated : ℕ) (body : List ℕ) (p : ℕ)
    → Holds d F footer stated body l.initial.work (with_cursor l.parts l.initial.held l.initial.c) p → Reads body p l.bytes → p + length l.bytes ≤ stated
    → (q : ℕ) × (Holds d F footer stated body l.work (with_cursor l.parts l.held l.c) q) × (Reads body q l.rest) × (q + length l.rest ≡ p + length l.bytes))

abbrev pub decreases-loop-rest : goal.decreases-loop-rest
decreases-loop-rest l = length l.rest
