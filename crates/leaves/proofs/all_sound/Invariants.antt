-- `leaves::all_sound` meets its contract. The invariant: the place is where dimension i starts, and in the dimensions
-- before it no range has a fault. Assumes nothing.
use Prim.Native.Nat.{ℕ, ◌≤◌, ◌<◌}
use mathlib.Core.Path.{◌≡◌}
use Rattle.description.specs.Description.{kind_at, side_start}
use Rattle.leaves.specs.Code.Sound.{SoundSide}
use Rattle.leaves.proofs.all_sound.Given as goal

abbrev pub invariant-loop-i : goal.invariant-loop-i
invariant-loop-i l =
    (l.i ≤ l.n)
    × (l.side ≡ side_start l.kinds l.i)
    × ((j : ℕ) → j < l.i → SoundSide (kind_at l.kinds j) l.leaves l.box_bytes (side_start l.kinds j) l.tiles)
