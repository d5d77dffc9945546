-- The checks of a stored box's ranges say 8, 9 and 23, and no other number; and the check of the box one more.
-- Assumes nothing.
use mathlib.Core.Path.{◌≡◌}
use mathlib.Core.Bool.{false, not}
use mathlib.Core.List.{List}
use Prim.Native.Nat.{ℕ}
use lib.Dec.{eqb}
use Rattle.answers.specs.Refusals as refusals
use Rattle.answers.proofs.Others.{Other, either-other, check-other, each-other}
use Rattle.description.specs.declared.Dimension.{Dimension}
use Rattle.verdicts.proofs.Judging.{stored_other}
use Rattle.boxes.specs.Boxes.{ranges_refusal, box_inside, box_refusal}

module _ (m : ℕ) (some : eqb 0 m ≡ false) (nan : eqb refusals.not_a_number m ≡ false) (far : eqb refusals.infinite m ≡ false)
    (turned : eqb refusals.reversed m ≡ false) (kinds : List Dimension) (sides : ℕ) (bytes : List ℕ) where
  pub ranges-other : (start : ℕ) → Other m (ranges_refusal kinds sides bytes start)
  unfolding ranges_refusal
  ranges-other start = each-other m some _ 0 sides (λ i low high. search (stored_other))

  pub box-other : (outer : List ℕ) (number start : ℕ) → eqb number m ≡ false → Other m (box_refusal kinds sides bytes outer number start)
  unfolding box_refusal
  box-other outer number start h =
      either-other m (ranges_refusal kinds sides bytes start) _ (ranges-other start)
      (check-other m some (not (box_inside kinds sides bytes outer)) number start h)
