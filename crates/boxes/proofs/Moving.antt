-- A box that starts elsewhere: the same is told of its ranges, at places moved by its start. Moving keeps which of two refuses first, so it
-- goes over from each range to all of them.
-- Assumes nothing.
use mathlib.Core.Path.{◌≡◌, refl, sym, ◌∙◌}
use mathlib.Core.List.{List}
use Prim.Native.Nat.{ℕ, ◌+◌, ◌^◌, ◌≤◌, ◌<◌}
use native.Mathlib.Omega.{arith}
use native.Mathlib.Nat.{zero-add}
use borrow.Author.Tests.{eqb-false}
use Rattle.answers.specs.Refusals.{none}
use Rattle.answers.specs.Checks.{otherwise, moved, moved_round}
use Rattle.answers.specs.declared.Refusal.{Refusal}
use Rattle.answers.proofs.Runs.{over-map, over-ext}
use Rattle.answers.proofs.Moved.{moved-otherwise, moved-code}
use Rattle.answers.proofs.Checks.{each-clear, all-clear, each-has}
use Rattle.description.specs.declared.Dimension.{Dimension}
use Rattle.description.specs.Description.{kind_at, side_start}
use Rattle.verdicts.specs.declared.Verdict.{Verdict}
use Rattle.verdicts.specs.declared.Verdict.TheVariants.{Sound, Infinite, InfiniteReversed, NotANumber, Reversed}
use Rattle.verdicts.specs.Verdicts.{verdict_at, stored_refusal}
use Rattle.boxes.specs.Boxes.{ranges_refusal}
use Rattle.description.proofs.Sides.{start_up}
use Rattle.boxes.proofs.Walking.{told_at}

moved_told : (start : ℕ) (j : Verdict) (place : ℕ) → moved start (stored_refusal j (0 + place)) ≡ stored_refusal j (start + place)
moved_told start (Sound r) place = refl
moved_told start (Infinite r) place = rw zero-add
moved_told start InfiniteReversed place = rw zero-add
moved_told start NotANumber place = rw zero-add
moved_told start Reversed place = rw zero-add

-- a range that is not refused says nothing at all
told-clear : (j : Verdict) (place : ℕ) → (stored_refusal j place).number ≡ 0 → stored_refusal j place ≡ none
told-clear (Sound r) place h = refl
told-clear (Infinite r) place h = absurd (eqb-false 23 0 refl h)
told-clear InfiniteReversed place h = absurd (eqb-false 23 0 refl h)
told-clear NotANumber place h = absurd (eqb-false 8 0 refl h)
told-clear Reversed place h = absurd (eqb-false 9 0 refl h)

module _ (kinds : List Dimension) (m : ℕ) (bytes : List ℕ) (start : ℕ) where
  pub ranges-moved : ranges_refusal kinds m bytes start ≡ moved start (ranges_refusal kinds m bytes 0)
  unfolding ranges_refusal
  ranges-moved =
      sym (
      over-map otherwise none otherwise none (moved start) refl (moved-otherwise start) (told_at kinds bytes 0) 0 m
      ∙ over-ext otherwise none _ _ 0 m (λ i a b. moved_told start (verdict_at (kind_at kinds i) bytes (side_start kinds i)) (side_start kinds i))
      )

  pub ranges-none : (ranges_refusal kinds m bytes start).number ≡ 0 → ranges_refusal kinds m bytes start ≡ none
  unfolding ranges_refusal
  ranges-none h =
      all-clear (told_at kinds bytes start) 0 m
      (λ i a b. told-clear (verdict_at (kind_at kinds i) bytes (side_start kinds i)) (start + side_start kinds i) (each-clear (told_at kinds bytes start) 0 m h i a b))

-- a fault of the ranges is placed before the box's end
told-before : (v : Verdict) (place most : ℕ) → place ≤ most → (stored_refusal v place).place ≤ most
told-before (Sound r) place most h = omega arith
told-before (Infinite r) place most h = h
told-before InfiniteReversed place most h = h
told-before NotANumber place most h = h
told-before Reversed place most h = h

pub fault-before : (kinds : List Dimension) (m : ℕ) (bytes : List ℕ) → (ranges_refusal kinds m bytes 0).place ≤ side_start kinds m
unfolding ranges_refusal
fault-before kinds m bytes =
    each-has (λ r. r.place ≤ side_start kinds m) (told_at kinds bytes 0) 0 m (omega arith)
    (λ i a l. told-before (verdict_at (kind_at kinds i) bytes (side_start kinds i)) _ _ (omega (arith, start_up kinds i m (omega arith))))

-- what is told of a box by itself and then moved, as code does it
pub ranges-told : {told moved_on : Refusal} (kinds : List Dimension) (m : ℕ) (bytes : List ℕ) (start : ℕ)
    → told ≡ ranges_refusal kinds m bytes 0 → moved_on ≡ moved_round start told → start + side_start kinds m < 2 ^ 64
    → moved_on ≡ ranges_refusal kinds m bytes start
ranges-told kinds m bytes start e f h =
    moved-code start (ranges_refusal kinds m bytes 0) (rw e at f) (omega (arith, fault-before kinds m bytes)) ∙ sym (ranges-moved kinds m bytes start)
