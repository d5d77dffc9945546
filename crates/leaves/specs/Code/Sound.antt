-- The leaves as they are checked: their boxes, and ranges that have no fault. Nothing here is promised to a caller.
-- Assumes nothing.
use Rattle.std.specs.Prelude.{ℕ, ◌+◌, ◌*◌, ◌<◌, ◌≡◌, true, false, List, take, drop}
use Rattle.std.specs.Float.Ieee.{Format, nan_bits}
use Rattle.answers.specs.Checks.{each}
use Rattle.answers.specs.declared.Refusal.{Refusal}
use Rattle.order.specs.Key.{float_at_most, infinite}
use Rattle.description.specs.declared.Kind.{Kind}
use Rattle.description.specs.declared.Description.{Description}
use Rattle.description.specs.Kinds.{is_infinite, ordered, at_most}
use Rattle.description.specs.Description.{sides_of, bytes_of_box}
use Rattle.verdicts.specs.Verdicts.{verdict_at, stored_refusal}
use Rattle.boxes.specs.Boxes.{ranges_refusal}

-- box c, of b bytes
abbrev pub box_in : List ℕ → ℕ → ℕ → List ℕ
box_in rest b c = take b (drop (c * b) rest)

-- the ranges of n leaves
unfoldable pub leaves_refusal : Description → ℕ → List ℕ → Refusal
leaves_refusal d n leaves =
    each (λ k. ranges_refusal d.kinds (sides_of d.dimensions) (box_in leaves (bytes_of_box d) k) (k * bytes_of_box d)) 0 n

-- ends that are finite and in order
abbrev pub SoundEnds : Kind → ℕ → ℕ → Type 0
SoundEnds kind low high =
    (at_most (ordered kind) low high ≡ true) × (is_infinite kind low ≡ false) × (is_infinite kind high ≡ false)

-- two patterns of floats that are finite and in order, as their values are read
abbrev pub SoundFloats : Format → (ℕ → ℕ) → ℕ → ℕ → Type 0
SoundFloats f read low high = record {
  low_number : nan_bits f low ≡ false;
  low_finite : infinite f low ≡ false;
  high_number : nan_bits f high ≡ false;
  high_finite : infinite f high ≡ false;
  ordered : float_at_most f (read low) (read high) ≡ true;
}

-- no leaf's range at this place of it has a fault
abbrev pub SoundSide : Kind → List ℕ → ℕ → ℕ → ℕ → Type 0
SoundSide kind leaves b side n = (k : ℕ) → k < n → (stored_refusal (verdict_at kind leaves (k * b + side)) side).number ≡ 0
