-- Boxes, by what holds of the ranges in each dimension. A test of all dimensions passes where each does, and a box that was made place by place
-- has at each place what was put there.
-- Assumes nothing.
use mathlib.Core.Path.{◌≡◌, refl, sym, ap, ◌∙◌}
use mathlib.Core.Bool.{Bool, true, false, ◌&&◌}
use mathlib.Core.List.{List}
use Prim.Native.Nat.{ℕ, ◌+◌, ◌-◌, ◌≤◌, ◌<◌}
use native.Mathlib.Nat.{zero-add}
use native.Mathlib.Omega.{arith}
use borrow.Author.Tests.{lt-ltb}
use Rattle.answers.proofs.Checks.{each-clear}
use Rattle.answers.proofs.Runs.{Each, over-left, over_done, over-unit, over-says}
use Rattle.answers.proofs.Filled.{row_at}
use Rattle.description.specs.declared.Dimension.{Dimension}
use Rattle.description.specs.Description.{kind_at, side_start}
use Rattle.description.proofs.Tests.{both, and_assoc, and-true}
use Rattle.ranges.specs.Ranges.{ends_of, range_at}
use Rattle.ranges.proofs.Comparing.{meets-around}
use Rattle.verdicts.proofs.Judging.{stored-finite}
use Rattle.boxes.specs.declared.Side.{Side}
use Rattle.boxes.specs.Boxes.{range_in, all, side_at, box_of, ranges_refusal, box_finite, box_inside, box_meets}

-- ---- every one passes
pub all-says : (g : ℕ → Bool) (k m : ℕ) → all g k m ≡ true → Each (λ i. g i ≡ true) k m
all-says = over-says ◌&&◌ true (λ t. t ≡ true) both

pub all-when : (g : ℕ → Bool) (k m : ℕ) → Each (λ i. g i ≡ true) k m → all g k m ≡ true
all-when = over-unit ◌&&◌ true and_assoc (λ a. refl) and-true

-- as a loop goes through n of them: those before i pass
module _ (g : ℕ → Bool) (n : ℕ) where
  abbrev pub Left : ℕ → Type 0
  Left i = all g 0 n ≡ all g i (n - i)

  pub none_left : (i : ℕ) → Left i → n ≤ i → true ≡ all g 0 n
  none_left i l h = sym (l ∙ over_done ◌&&◌ true g i (n - i) (omega arith))

  module _ (i : ℕ) (l : Left i) (more : i < n) {t : Bool} (e : t ≡ g i) where
    split : all g 0 n ≡ (t && all g (i + 1) (n - (i + 1)))
    split = l ∙ over-left ◌&&◌ true g i n more ∙ rw e

    pub missed : t ≡ false → false ≡ all g 0 n
    missed h = sym (split ∙ rw h)

    pub passed : t ≡ true → Left (i + 1)
    passed h = split ∙ rw h

-- ---- a list that is made place by place
-- the box in its bytes
pub box-side : (kinds : List Dimension) (m : ℕ) (bytes : List ℕ) (i : ℕ) → i < m → i < 4
    → range_in (box_of kinds m bytes) i ≡ range_at (kind_at kinds i) bytes (side_start kinds i)
unfolding box_of
box-side kinds m bytes i h l = ap (λ (s : Side). s.range) (row_at _ 0 4 i _ l) ∙ rw (zero-add, lt-ltb i m h)

-- ---- the laws of ranges, of boxes
module _ (kinds : List Dimension) (m : ℕ) where
  -- a box that meets a window makes every box around it meet
  pub box-meets-around : (b o : List ℕ) (w : List Side) → box_inside kinds m b o ≡ true → box_meets kinds m b w ≡ true → box_meets kinds m o w ≡ true
  unfolding box_inside box_meets
  box-meets-around b o w p q =
      all-when _ 0 m (λ i k l. meets-around (side_at kinds b i) (side_at kinds o i) (ends_of (range_in w i)) (all-says _ 0 m p i k l) (all-says _ 0 m q i k l))

  -- a stored box whose ranges are not refused is finite
  pub box-finite : (bytes : List ℕ) (start : ℕ) → (ranges_refusal kinds m bytes start).number ≡ 0 → box_finite kinds m bytes ≡ true
  unfolding ranges_refusal box_finite
  box-finite bytes start h =
      all-when _ 0 m (λ i k l. stored-finite (side_at kinds bytes i) _ (start + side_start kinds i) (each-clear _ 0 m h i k l))
