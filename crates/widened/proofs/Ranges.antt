-- How do two ranges lie to each other once both are widened? As before, if they are of one kind. Of two kinds they may
-- come to be of one: a float32 range and a float64 range are apart, and widened they are not.
-- Assumes nothing.
use mathlib.Core.Path.{◌≡◌, refl, ◌∙◌}
use mathlib.Core.Bool.{Bool, true, false, ◌||◌}
use Prim.Native.Nat.{ℕ}
use lib.Ieee.{Float, binary32, fits}
use lib.Ieee.Bits.{of_bits-to_bits}
use denote.Floats.{passes}
use Rattle.answers.specs.Refusals.{none}
use Rattle.description.specs.declared.Kind.{Kind}
use Rattle.description.specs.Kinds.{is_nan, is_infinite}
use Rattle.description.proofs.Tests.{neither}
use Rattle.description.proofs.Datatypes.{same_kind_lem}
use Rattle.ranges.specs.declared.Range.{Range}
use Rattle.ranges.specs.declared.Range.TheVariants.{I32, I64, F32, F64, U64}
use Rattle.ranges.specs.Ranges.{Ends, ends, kind_of, ends_of, inside, meets}
use Rattle.verdicts.specs.Verdicts.{verdict_on, verdict, stored_refusal, asked_refusal}
use Rattle.verdicts.proofs.Judging.{verdict-on-is, stored-clear, stored-sound, asked-clear}
use Rattle.widened.specs.Widened.{widened_kind, widened_pattern, widened_end, widened_ends, widened_range}
use Rattle.widened.proofs.Patterns.{end-infinite, end-at-most}

-- ---- a window's range
pub range-ends : (r : Range) → ends_of (widened_range r) ≡ widened_ends (ends_of r)
unfolding ends_of widened_range widened_pattern
range-ends (I32 a b) = refl
range-ends (I64 a b) = refl
range-ends (F32 a b) = refl
range-ends (F64 a b) = refl
range-ends (U64 a b) = refl

pub range-kind : (r : Range) → kind_of (widened_range r) ≡ widened_kind (kind_of r)
unfolding widened_range
range-kind (I32 a b) = refl
range-kind (I64 a b) = refl
range-kind (F32 a b) = refl
range-kind (F64 a b) = refl
range-kind (U64 a b) = refl

-- a range of two float32 values is the range of the same two as float64 values
pub range-of-floats : (a b : Float) → fits binary32 a ≡ true → fits binary32 b ≡ true → widened_range (F32 a b) ≡ F64 a b
unfolding widened_range
range-of-floats a b p q = rw (of_bits-to_bits binary32 a (passes (fits binary32 a) p), of_bits-to_bits binary32 b (passes (fits binary32 b) q))

-- ---- two ranges of one kind
module _ (k : Kind) (a b c d : ℕ) where
  meets-one : meets (widened_ends (ends k a b)) (widened_ends (ends k c d)) ≡ meets (ends k a b) (ends k c d)
  unfolding meets
  meets-one = rw (end-at-most k a d, end-at-most k c b, same_kind_lem (widened_kind k), same_kind_lem k)

  inside_one : inside (widened_ends (ends k a b)) (widened_ends (ends k c d)) ≡ inside (ends k a b) (ends k c d)
  unfolding inside
  inside_one = rw (end-at-most k c a, end-at-most k b d, same_kind_lem (widened_kind k), same_kind_lem k)

module _ (e o : Ends) where
  pub meets-widened : e.kind ≡ o.kind → meets (widened_ends e) (widened_ends o) ≡ meets e o
  meets-widened same = go o.kind same
    where
      go : (k : Kind) → e.kind ≡ k → meets (widened_ends e) (widened_ends (ends k o.low o.high)) ≡ meets e (ends k o.low o.high)
      go k same = rw (← same) (meets-one e.kind e.low e.high o.low o.high)

  pub inside-widened : e.kind ≡ o.kind → inside (widened_ends e) (widened_ends o) ≡ inside e o
  inside-widened same = go o.kind same
    where
      go : (k : Kind) → e.kind ≡ k → inside (widened_ends e) (widened_ends (ends k o.low o.high)) ≡ inside e (ends k o.low o.high)
      go k same = rw (← same) (inside_one e.kind e.low e.high o.low o.high)

-- ---- what is told of a range that is not refused
module _ (e : Ends) (r : Range) (at : ℕ) (s : Range) (to : ℕ) where
  pub stored-widened : (stored_refusal (verdict e r) at).number ≡ 0 → stored_refusal (verdict (widened_ends e) s) to ≡ none
  stored-widened clear =
      let k = e.kind in
      let told = stored-clear k e.low e.high r at clear in
      let finite = neither (is_infinite k e.low) (is_infinite k e.high) told.1 in
      stored-sound (widened_kind k) (widened_end k e.low) (widened_end k e.high) s to
      (end-at-most k e.low e.high ∙ told.0) (end-infinite k e.low ∙ finite.0) (end-infinite k e.high ∙ finite.1)

  pub asked-widened : (asked_refusal (verdict e r) at).number ≡ 0 → asked_refusal (verdict (widened_ends e) s) to ≡ none
  asked-widened clear =
      let k = e.kind in
      let told = asked-clear k e.low e.high r at clear in
      let x = widened_end k e.low in
      let y = widened_end k e.high in
      rw (verdict-on-is (widened_kind k) x y s, end-at-most k e.low e.high, told)
      (go (is_nan (widened_kind k) x || is_nan (widened_kind k) y) (is_infinite (widened_kind k) x || is_infinite (widened_kind k) y))
    where
      go : (nan infinite : Bool) → asked_refusal (verdict_on s true nan infinite) to ≡ none
      go nan true = refl
      go nan false = refl
