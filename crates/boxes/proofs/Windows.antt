-- A query's box that passes its checks has the description's number of dimensions and its kinds, and no NaN.
-- Assumes nothing.
use mathlib.Core.Path.{◌≡◌, refl}
use mathlib.Core.Bool.{Bool, true, false}
use mathlib.Core.List.{List}
use Prim.Native.Nat.{ℕ, ◌<◌}
use native.Mathlib.Omega.{arith}
use borrow.Author.Tests.{eqb-true, not-false}
use Rattle.answers.specs.declared.Refusal.{Refusal}
use Rattle.answers.proofs.Checks.{clear, check-clear, each-clear}
use Rattle.description.specs.declared.Dimension.{Dimension}
use Rattle.description.specs.declared.Description.{Description}
use Rattle.description.specs.Description.{kind_at, sides_of}
use Rattle.description.proofs.Datatypes.{one-kind}
use Rattle.ranges.specs.declared.Range.{Range}
use Rattle.ranges.specs.Ranges.{kind_of, ends_of, has_nan}
use Rattle.verdicts.specs.Verdicts.{verdict, asked_refusal}
use Rattle.boxes.specs.declared.Side.{Side}
use Rattle.boxes.specs.declared.Window.{Window}
use Rattle.boxes.specs.Boxes.{range_in}
use Rattle.boxes.specs.Windows.{side_refusal, window_refusal}

-- what is told of side i
abbrev pub side_told : List Dimension → List Side → ℕ → Refusal
side_told kinds sides i = side_refusal (range_in sides i) (kind_at kinds i) i

-- a range that is asked with and not refused has no NaN
asked-number : (r : Range) (place : ℕ) → (asked_refusal (verdict (ends_of r) r) place).number ≡ 0 → has_nan (ends_of r) ≡ false
unfolding verdict
asked-number r place h = go (has_nan (ends_of r)) refl
  where
    go : (t : Bool) → has_nan (ends_of r) ≡ t → has_nan (ends_of r) ≡ false
    go true e = absurd (omega (arith, rw e at h))
    go false e = e

module _ (d : Description) (w : Window) (passed : (window_refusal d w).number ≡ 0) where
  pub window-dimensions : w.dimensions ≡ d.dimensions
  unfolding window_refusal
  window-dimensions = eqb-true _ _ (not-false _ (check-clear _ _ _ (omega arith) (clear _ _ passed).0))

  module _ (i : ℕ) (h : i < sides_of d.dimensions) where
    side-clear : (side_told d.kinds w.sides i).number ≡ 0
    unfolding window_refusal
    side-clear =
        each-clear (side_told d.kinds w.sides) 0 (sides_of d.dimensions) (clear _ _ (clear _ _ passed).1).0 i (omega arith) (omega arith)

    pub window-kind : kind_of (range_in w.sides i) ≡ kind_at d.kinds i
    unfolding side_refusal
    window-kind = one-kind _ _ (not-false _ (check-clear _ _ _ (omega arith) (clear _ _ side-clear).0))

    pub window-number : has_nan (ends_of (range_in w.sides i)) ≡ false
    unfolding side_refusal
    window-number = asked-number (range_in w.sides i) i (clear _ _ (clear _ _ side-clear).1).0
