-- What do the rules say of a widened description and a widened window? The description has no float32 dimension, so 28
-- is not said of it (`widened-unretired`) and, within the limits, nothing is (`described-widened`). A window that
-- wasn't refused is not refused (`window-widened`).
-- Assumes nothing.
use mathlib.Core.Path.{◌≡◌, refl, ap, ◌∙◌}
use mathlib.Core.Bool.{false, not}
use Prim.Native.Nat.{ℕ, ◌<◌}
use native.Mathlib.Omega.{arith}
use lib.Dec.{eqb}
use borrow.Author.Tests.{eq-eqb}
use Rattle.answers.specs.Refusals.{none}
use Rattle.answers.specs.Checks.{each}
use Rattle.answers.specs.declared.Refusal.{Refusal}
use Rattle.answers.proofs.Checks.{go_on, past, past-check, ended, clear, each-clear, all-clear}
use Rattle.description.specs.declared.Kind.{Kind}
use Rattle.description.specs.declared.Kind.TheVariants.{Int32, Int64, Float32, Float64, Uint64}
use Rattle.description.specs.declared.Description.{Description}
use Rattle.description.specs.Kinds.{same_kind, is_float32}
use Rattle.description.specs.Description.{kind_at, sides_of, limits_refusal, description_refusal}
use Rattle.description.proofs.Datatypes.{same_kind_lem}
use Rattle.description.proofs.Rules.{Unretired}
use Rattle.description.proofs.Retired.{without-float32}
use Rattle.ranges.specs.declared.Range.{Range}
use Rattle.ranges.specs.Ranges.{kind_of, ends_of}
use Rattle.verdicts.specs.Verdicts.{verdict, asked_refusal}
use Rattle.boxes.specs.declared.Window.{Window}
use Rattle.boxes.specs.Boxes.{range_in}
use Rattle.boxes.specs.Windows.{side_refusal, window_refusal}
use Rattle.boxes.proofs.Windows.{side_told, window-dimensions, window-kind}
use Rattle.widened.specs.Widened.{widened_kind, widened_range, widened_sides, widened_window, widened_kinds, widened_description}
use Rattle.widened.proofs.Ranges.{range-ends, range-kind, asked-widened}
use Rattle.widened.proofs.Boxes.{kind-widened, side-widened}

-- ---- the description
no-float32 : (k : Kind) → is_float32 (widened_kind k) ≡ false
no-float32 Int32 = refl
no-float32 Int64 = refl
no-float32 Float32 = refl
no-float32 Float64 = refl
no-float32 Uint64 = refl

pub widened-unretired : (d : Description) → Unretired (widened_description d)
widened-unretired d =
    without-float32 (widened_description d) (λ i l. rw (kind-widened d.kinds i) (no-float32 (kind_at d.kinds i)))

-- the limits look at no kind
pub limits-widened : (d : Description) → limits_refusal (widened_description d) ≡ limits_refusal d
unfolding limits_refusal
limits-widened d = refl

pub described-widened : (d : Description) → (limits_refusal d).number ≡ 0 → description_refusal (widened_description d) ≡ none
described-widened d h = go_on _ _ (ap (λ (r : Refusal). r.number) (limits-widened d) ∙ h) ∙ (widened-unretired d).silent

-- ---- one side of a window
module _ (r : Range) (k : Kind) (place : ℕ) (clear-side : (side_refusal r k place).number ≡ 0) (same : kind_of r ≡ k) where
  pub side-clear : side_refusal (widened_range r) (widened_kind k) place ≡ none
  unfolding side_refusal
  side-clear =
      let asked = (clear _ _ (clear _ _ clear-side).1).0 in
      let kind : not (same_kind (kind_of (widened_range r)) (widened_kind k)) ≡ false = rw (range-kind r, same, same_kind_lem (widened_kind k)) in
      let told : asked_refusal (verdict (ends_of (widened_range r)) (widened_range r)) place ≡ none =
      rw (range-ends r) (asked-widened (ends_of r) r place (widened_range r) place asked) in
      past-check _ _ _ _ kind ∙ past _ _ (ap (λ (t : Refusal). t.number) told) ∙ ended

-- ---- a window
module _ (d : Description) (w : Window) (clear-window : (window_refusal d w).number ≡ 0) where
  abbrev m : ℕ
  m = sides_of d.dimensions

  old-clear : (i : ℕ) → i < m → (side_told d.kinds w.sides i).number ≡ 0
  unfolding window_refusal
  old-clear i h = each-clear (side_told d.kinds w.sides) 0 m (clear _ _ (clear _ _ clear-window).1).0 i (omega arith) (omega arith)

  sides-none : each (side_told (widened_kinds d.kinds) (widened_sides w.sides)) 0 m ≡ none
  sides-none =
      all-clear _ 0 m (λ i a l.
      rw (side-widened w.sides i, kind-widened d.kinds i)
      (side-clear (range_in w.sides i) (kind_at d.kinds i) i (old-clear i (omega arith)) (window-kind d w clear-window i (omega arith))))

  pub window-widened : window_refusal (widened_description d) (widened_window w) ≡ none
  unfolding window_refusal
  window-widened =
      let same : not (eqb w.dimensions d.dimensions) ≡ false = rw (eq-eqb _ _ (window-dimensions d w clear-window)) in
      past-check _ _ _ _ same ∙ past _ _ (ap (λ (t : Refusal). t.number) sides-none) ∙ ended
