-- `rows::next_apart` meets its contract. The loop's invariant: no box from where it began to the place has a fault, whatever the number of a box
-- outside is (`RowAt`). Assumes nothing.
use Prim.Native.Nat.{ℕ, ◌-◌, ◌≤◌}
use lib.ListN.{length}
use Rattle.description.specs.Description.{sides_of}
use Rattle.rows.specs.Code.Row.{RowAt}
use Rattle.rows.proofs.next_apart.Given as goal

abbrev pub invariant-loop-at : goal.invariant-loop-at
invariant-loop-at l =
    (l.from ≤ l.at) × (l.at ≤ length l.row)
    × ((number : ℕ) → RowAt l.kinds (sides_of l.dimensions) l.row l.outer number l.from → RowAt l.kinds (sides_of l.dimensions) l.row l.outer number l.at)

abbrev pub decreases-loop-at : goal.decreases-loop-at
decreases-loop-at l = l.len - l.at
