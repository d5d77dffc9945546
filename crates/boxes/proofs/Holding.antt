-- Lying inside, of boxes: as their ranges lie in each dimension.
-- Assumes nothing.
use mathlib.Core.Path.{◌≡◌, refl, sym, ◌∙◌}
use mathlib.Core.Bool.{Bool, true, false}
use mathlib.Core.List.{List}
use Prim.Native.Nat.{ℕ, ◌<◌}
use native.Mathlib.Omega.{arith}
use Rattle.answers.specs.Refusals.{none}
use Rattle.answers.proofs.Checks.{each-clear, all-clear}
use Rattle.description.specs.declared.Dimension.{Dimension}
use Rattle.description.specs.Description.{kind_at}
use Rattle.ranges.specs.Ranges.{ends_at, has_nan}
use Rattle.boxes.specs.declared.Side.{Side}
use Rattle.boxes.specs.Boxes.{side_at, ranges_refusal, box_inside, box_meets}
use Rattle.boxes.proofs.Boxes.{all-says, all-when, box-meets-around}
use Rattle.boxes.proofs.Walking.{told_at}
use Rattle.ranges.proofs.Comparing.{inside-refl, inside-trans}
use Rattle.ranges.proofs.Containing.{inside-numbers}
use Rattle.verdicts.proofs.Stored.{stored-numbers, stored_same}

module _ (kinds : List Dimension) (m : ℕ) where
  -- no range of m dimensions has a NaN
  abbrev pub Numbers : List ℕ → Type 0
  Numbers bytes = (i : ℕ) → i < m → has_nan (side_at kinds bytes i) ≡ false

  pub ranges-numbers : (bytes : List ℕ) (at : ℕ) → (ranges_refusal kinds m bytes at).number ≡ 0 → Numbers bytes
  unfolding ranges_refusal ends_at
  ranges-numbers bytes at clear i h =
      stored-numbers (kind_at kinds i) (side_at kinds bytes i).low (side_at kinds bytes i).high _ _
      (each-clear (told_at kinds bytes at) 0 m clear i (omega arith) (omega arith))

  -- what lies inside another has none, and lies inside whatever the other lies inside
  pub inside-box-numbers : (b o : List ℕ) → box_inside kinds m b o ≡ true → Numbers b
  unfolding box_inside
  inside-box-numbers b o h i l = inside-numbers (side_at kinds b i) (side_at kinds o i) (all-says _ 0 m h i (omega arith) (omega arith))

  -- boxes with the same range in each dimension, none with a NaN, lie inside each other
  pub box-inside-same : (b o : List ℕ) → Numbers b → ((i : ℕ) → i < m → side_at kinds b i ≡ side_at kinds o i)
      → (box_inside kinds m b o ≡ true) × (box_inside kinds m o b ≡ true)
  unfolding box_inside
  box-inside-same b o no_nan same = (
    all-when _ 0 m (λ i a l. rw (← (same i (omega arith))) (inside-refl (side_at kinds b i) (no_nan i (omega arith)))),
    all-when _ 0 m (λ i a l. rw (← (same i (omega arith))) (inside-refl (side_at kinds b i) (no_nan i (omega arith)))),
  )

  pub box-inside-trans : (b c o : List ℕ) → box_inside kinds m b c ≡ true → box_inside kinds m c o ≡ true → box_inside kinds m b o ≡ true
  unfolding box_inside
  box-inside-trans b c o p q =
      all-when _ 0 m (λ i a l.
      inside-trans (side_at kinds b i) (side_at kinds c i) (side_at kinds o i) (all-says _ 0 m p i a l) (all-says _ 0 m q i a l))

  -- boxes of which each lies inside the other meet the same windows
  pub same_meets : (b o : List ℕ) (w : List Side) → box_inside kinds m b o ≡ true → box_inside kinds m o b ≡ true
      → box_meets kinds m b w ≡ box_meets kinds m o w
  same_meets b o w p q = go (box_meets kinds m b w) refl (box_meets kinds m o w) refl
    where
      go : (t : Bool) → box_meets kinds m b w ≡ t → (u : Bool) → box_meets kinds m o w ≡ u → t ≡ u
      go true e true f = refl
      go true e false f = sym (box-meets-around kinds m b o w p e) ∙ f
      go false e true f = sym e ∙ box-meets-around kinds m o b w q f
      go false e false f = refl

  -- and one is sound where the other is
  pub same-sound : (b o : List ℕ) (at to : ℕ) → (ranges_refusal kinds m o at).number ≡ 0 → box_inside kinds m b o ≡ true → box_inside kinds m o b ≡ true
      → ranges_refusal kinds m b to ≡ none
  unfolding ranges_refusal box_inside ends_at
  same-sound b o at to clear p q =
      all-clear (told_at kinds b to) 0 m (λ i a l.
      stored_same (kind_at kinds i) (side_at kinds o i).low (side_at kinds o i).high _ _ (each-clear (told_at kinds o at) 0 m clear i a l)
      (side_at kinds b i).low (side_at kinds b i).high (all-says _ 0 m p i a l) (all-says _ 0 m q i a l) _ _)
