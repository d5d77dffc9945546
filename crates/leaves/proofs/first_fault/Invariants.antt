-- `leaves::first_fault` meets its contract. The invariant: the place is that of leaf k, and what the leaves from k on
-- say is what all of them say, since the ones before said nothing. Assumes nothing.
use Prim.Native.Nat.{ℕ, ◌-◌, ◌*◌}
use mathlib.Core.Path.{◌≡◌}
use mathlib.Core.List.{List}
use Rattle.answers.specs.Checks.{each}
use Rattle.answers.specs.declared.Refusal.{Refusal}
use Rattle.description.specs.declared.Description.{Description}
use Rattle.description.specs.Description.{sides_of, bytes_of_box}
use Rattle.boxes.specs.Boxes.{ranges_refusal}
use Rattle.leaves.specs.Code.Sound.{box_in, leaves_refusal}
use Rattle.leaves.proofs.first_fault.Given as goal

abbrev pub leaf_at : Description → List ℕ → ℕ → Refusal
leaf_at d leaves k = ranges_refusal d.kinds (sides_of d.dimensions) (box_in leaves (bytes_of_box d) k) (k * bytes_of_box d)

abbrev pub invariant-loop-k : goal.invariant-loop-k
invariant-loop-k l =
    (l.at ≡ l.k * bytes_of_box l.description)
    × (leaves_refusal l.description l.tiles l.leaves ≡ each (leaf_at l.description l.leaves) l.k (l.tiles - l.k))
