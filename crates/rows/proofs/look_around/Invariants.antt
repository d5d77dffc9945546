-- `rows::look_around` meets its contract. The loop's invariant: the place is where dimension i starts, and the ranges of the dimensions before it
-- are finite where nothing else was found.
-- Assumes nothing.
use mathlib.Core.Path.{◌≡◌}
use mathlib.Core.Bool.{true}
use Prim.Native.Nat.{ℕ, ◌≤◌, ◌<◌}
use Rattle.description.specs.Description.{side_start}
use Rattle.verdicts.specs.Verdicts.{is_finite}
use Rattle.boxes.specs.Boxes.{side_at}
use Rattle.rows.proofs.look_around.Given as goal

abbrev pub invariant-loop-i : goal.invariant-loop-i
invariant-loop-i l =
    (l.i ≤ l.n) × (l.at ≡ side_start l.kinds l.i) × (l.sound ≡ true → (j : ℕ) → j < l.i → is_finite (side_at l.kinds l.outer j) ≡ true)
