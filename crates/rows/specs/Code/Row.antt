-- The boxes of a row, one after the other, each held against one box around them all. Nothing here is promised to a
-- user of the library. Assumes nothing.
use Rattle.std.specs.Prelude.{ℕ, Option, MatchOption, ◌+◌, ◌-◌, ◌*◌, ◌/◌, ◌≤◌, ◌<◌, ◌≡◌, Bool, true, false, ◌&&◌, List, eqb, length, take, drop}
use Rattle.answers.specs.Checks.{each}
use Rattle.answers.specs.Refusals.{none}
use Rattle.answers.specs.declared.Refusal.{Refusal}
use Rattle.description.specs.declared.Kind.{Kind}
use Rattle.description.specs.declared.Dimension.{Dimension}
use Rattle.description.specs.Kinds.{range_bytes}
use Rattle.description.specs.Description.{kind_at, side_start}
use Rattle.ranges.specs.Ranges.{ends_at, inside}
use Rattle.verdicts.specs.declared.Verdict.{Verdict}
use Rattle.verdicts.specs.Verdicts.{is_finite, verdict_at, stored_refusal}
use Rattle.boxes.specs.Boxes.{all, box_refusal}
use Rattle.rows.specs.declared.Standing.{Standing}

-- a verdict that no refusal comes of
abbrev pub is_sound : Verdict → Bool
is_sound v = eqb (stored_refusal v 0).number 0

-- the range of a kind at a place is sound and lies inside the one that another box has there
abbrev pub sound_within : Kind → List ℕ → List ℕ → ℕ → Bool
sound_within k bytes outer at = is_sound (verdict_at k bytes at) && inside (ends_at k bytes at) (ends_at k outer at)

-- that of dimension i
abbrev pub sound_inside : List Dimension → List ℕ → List ℕ → ℕ → Bool
sound_inside kinds bytes outer i = sound_within (kind_at kinds i) bytes outer (side_start kinds i)

-- the range of a kind at a place is there whole, and finite
abbrev pub SoundSide : Kind → List ℕ → ℕ → Type 0
SoundSide k bytes at = (at + range_bytes k ≤ length bytes) × (is_finite (ends_at k bytes at) ≡ true)

-- and so is each of a box's m dimensions
abbrev pub SoundBox : List Dimension → ℕ → List ℕ → Type 0
SoundBox kinds m bytes = (i : ℕ) → i < m → SoundSide (kind_at kinds i) bytes (side_start kinds i)

module _ (kinds : List Dimension) (m : ℕ) (row outer : List ℕ) (number : ℕ) where
  -- box i of a row, of m dimensions
  abbrev pub row_box : ℕ → Refusal
  row_box i =
      box_refusal kinds m (take (side_start kinds m) (drop (i * side_start kinds m) row)) outer number (i * side_start kinds m)

  -- the first box with a fault, placed in the row
  unfoldable pub row_refusal : Refusal
  row_refusal = each row_box 0 (length row / side_start kinds m)

-- the fault of a box, as a type that tells a refusal has it: nothing where nothing is refused
abbrev pub Fault : {T : Type 0} → (T → Refusal) → Option T → Refusal → Type 0
Fault tells fault r = MatchOption fault (r.number ≡ 0) (λ t. (tells t ≡ r) × (r.number ≡ 0 → ⊥))

-- the boxes of a row before the place `at` said nothing
pub record RowAt (kinds : List Dimension) (m : ℕ) (row outer : List ℕ) (number at : ℕ) : Type 0 where
  pub index : ℕ
  pub place : at ≡ index * side_start kinds m
  pub there : at ≤ length row
  pub same : row_refusal kinds m row outer number
      ≡ each (row_box kinds m row outer number) index (length row / side_start kinds m - index)

module _ (kinds : List Dimension) (m : ℕ) (row outer : List ℕ) (from : ℕ) where
  -- a box of the row from a place on, before which none has a fault, is not sound and inside
  pub record ApartAt (b : Standing) : Type 0 where
    pub some : 0 < side_start kinds m
    pub end : b.end ≡ b.start + side_start kinds m
    pub on : from ≤ b.start
    pub there : side_start kinds m ≤ length row - b.start
    pub apart : all (sound_inside kinds (take (b.start + side_start kinds m - b.start) (drop b.start row)) outer) 0 m ≡ false
    pub before : (number : ℕ) → RowAt kinds m row outer number from → RowAt kinds m row outer number b.start

  -- the next such box, or none is left
  abbrev pub NextApart : Option Standing → Type 0
  NextApart found =
      MatchOption found ((number : ℕ) → RowAt kinds m row outer number from → none ≡ row_refusal kinds m row outer number) ApartAt
