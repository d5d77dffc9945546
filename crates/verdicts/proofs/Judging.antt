-- The verdict on a range, at every kind at once: its minimum is at most its maximum, which no NaN is, and then it is sound or infinite; else a
-- NaN at either end comes before the ends' order, of finite ends or of others. So a verdict refuses nothing of a stored range where its ends are
-- finite and in order, and only there, and nothing of a window's where its ends are in order.
-- Assumes nothing.
use mathlib.Core.Path.{◌≡◌, refl, sym, ap, ◌∙◌}
use mathlib.Core.Bool.{Bool, true, false, not, ◌&&◌, ◌||◌, cond, true≢false}
use Prim.Native.Nat.{ℕ}
use native.Mathlib.Omega.{arith}
use lib.Dec.{leb, eqb}
use Rattle.answers.specs.Refusals as refusals
use Rattle.answers.specs.Refusals.{none}
use Rattle.answers.proofs.Others.{Other}
use Rattle.order.proofs.Tests.{not-leb}
use Rattle.description.specs.declared.Kind.{Kind}
use Rattle.description.specs.Kinds.{key, is_nan, is_infinite, ordered, at_most}
use Rattle.description.proofs.Patterns.{at-most-says}
use Rattle.ranges.specs.declared.Range.{Range}
use Rattle.ranges.specs.Ranges.{Ends, ends, ends_of, has_nan}
use Rattle.verdicts.specs.declared.Verdict.{Verdict}
use Rattle.verdicts.specs.declared.Verdict.TheVariants.{Sound, Infinite, InfiniteReversed, NotANumber, Reversed}
use Rattle.verdicts.specs.Verdicts.{has_infinity, is_finite, is_reversed, verdict, verdict_on, stored_refusal, asked_refusal}

-- as the code tells what is not sound
abbrev pub other_verdict : Range → Bool → Bool → Bool → Verdict
other_verdict r ordered nan infinite = cond nan NotANumber (cond ordered (Infinite r) (cond infinite InfiniteReversed Reversed))

-- a float's order is that of the keys of what is no NaN; x and y tell the NaNs, i and j the infinities
abbrev in_order : Bool → Bool → Bool → Bool
in_order x y l = not x && (not y && l)

module _ (r : Range) (x y l i j : Bool) where
  sound-on : (in_order x y l && (not i && not j)) ≡ true → Sound r ≡ verdict_on r (in_order x y l) (x || y) (i || j)
  sound-on h = go x y l i j h
    where
      go : (x y l i j : Bool) → (in_order x y l && (not i && not j)) ≡ true → Sound r ≡ verdict_on r (in_order x y l) (x || y) (i || j)
      go true y l i j h = absurd (true≢false (sym h))
      go false true l i j h = absurd (true≢false (sym h))
      go false false false i j h = absurd (true≢false (sym h))
      go false false true true j h = absurd (true≢false (sym h))
      go false false true false true h = absurd (true≢false (sym h))
      go false false true false false h = refl

  pub sound-by : {t : Bool} → t ≡ (in_order x y l && (not i && not j)) → t ≡ true → Sound r ≡ verdict_on r (in_order x y l) (x || y) (i || j)
  sound-by e h = sound-on (sym e ∙ h)

  other-on : (in_order x y l && (not i && not j)) ≡ false
      → other_verdict r (in_order x y l) (x || y) (i || j) ≡ verdict_on r (in_order x y l) (x || y) (i || j)
  other-on h = go x y l i j h
    where
      go : (x y l i j : Bool) → (in_order x y l && (not i && not j)) ≡ false
          → other_verdict r (in_order x y l) (x || y) (i || j) ≡ verdict_on r (in_order x y l) (x || y) (i || j)
      go true y l i j h = refl
      go false true l i j h = refl
      go false false false i j h = refl
      go false false true true j h = refl
      go false false true false true h = refl
      go false false true false false h = absurd (true≢false h)

  pub other-by : {p n m t : Bool} {v : Verdict} → p ≡ in_order x y l → n ≡ (x || y) → m ≡ (i || j)
      → t ≡ (in_order x y l && (not i && not j)) → t ≡ false → v ≡ other_verdict r p n m → v ≡ verdict_on r (in_order x y l) (x || y) (i || j)
  other-by e f h s u g = g ∙ (λ i. other_verdict r (e i) (f i) (h i)) ∙ other-on (sym s ∙ u)

module _ (k : Kind) (a b : ℕ) (r : Range) where
  -- an end is infinite
  abbrev infinite : Bool
  infinite = is_infinite k a || is_infinite k b

  pub verdict-on-is : verdict (ends k a b) r ≡ verdict_on r (at_most (ordered k) a b) (is_nan k a || is_nan k b) infinite
  unfolding verdict has_nan has_infinity is_reversed at_most
  verdict-on-is = rw (← not-leb (key k b) (key k a)) (go (is_nan k a) (is_nan k b) (leb (key k a) (key k b)))
    where
      go : (x y l : Bool)
          → cond (x || y) NotANumber (cond infinite (cond (not l) InfiniteReversed (Infinite r)) (cond (not l) Reversed (Sound r)))
          ≡ verdict_on r (not x && (not y && l)) (x || y) infinite
      go true y l = refl
      go false true l = refl
      go false false true = refl
      go false false false = refl

  pub verdict-by : {p n i : Bool} {v : Verdict} → ends_of r ≡ ends k a b → p ≡ at_most (ordered k) a b → n ≡ (is_nan k a || is_nan k b) → i ≡ infinite
      → v ≡ verdict_on r p n i → v ≡ verdict (ends_of r) r
  verdict-by q e f h g = g ∙ (λ i. verdict_on r (e i) (f i) (h i)) ∙ sym verdict-on-is ∙ ap (λ (x : Ends). verdict x r) (sym q)

  -- ends that are finite and in order
  pub sound : at_most (ordered k) a b ≡ true → is_infinite k a ≡ false → is_infinite k b ≡ false → verdict (ends k a b) r ≡ Sound r
  sound h p q = verdict-on-is ∙ rw (h, p, q)

  module _ (place : ℕ) where
    pub stored-sound : at_most (ordered k) a b ≡ true → is_infinite k a ≡ false → is_infinite k b ≡ false
        → stored_refusal (verdict (ends k a b) r) place ≡ none
    stored-sound h p q = rw (sound h p q)

    stored-says : (o n i : Bool) → (stored_refusal (verdict_on r o n i) place).number ≡ 0 → (o ≡ true) × (i ≡ false)
    stored-says true n false e = (refl, refl)
    stored-says true n true e = absurd (omega arith)
    stored-says false true i e = absurd (omega arith)
    stored-says false false true e = absurd (omega arith)
    stored-says false false false e = absurd (omega arith)

    pub stored-clear : (stored_refusal (verdict (ends k a b) r) place).number ≡ 0 → (at_most (ordered k) a b ≡ true) × (infinite ≡ false)
    stored-clear h = stored-says (at_most (ordered k) a b) (is_nan k a || is_nan k b) infinite (rw verdict-on-is at h)

    asked-says : (o n i : Bool) → (asked_refusal (verdict_on r o n i) place).number ≡ 0 → o ≡ true
    asked-says true n i e = refl
    asked-says false true i e = absurd (omega arith)
    asked-says false false true e = absurd (omega arith)
    asked-says false false false e = absurd (omega arith)

    pub asked-clear : (asked_refusal (verdict (ends k a b) r) place).number ≡ 0 → at_most (ordered k) a b ≡ true
    asked-clear h = asked-says (at_most (ordered k) a b) (is_nan k a || is_nan k b) infinite (rw verdict-on-is at h)

-- so a stored range that is not refused is finite
pub stored-finite : (e : Ends) (r : Range) (place : ℕ) → (stored_refusal (verdict e r) place).number ≡ 0 → is_finite e ≡ true
unfolding has_nan has_infinity
stored-finite e r place h =
    let s = stored-clear e.kind e.low e.high r place h in
    let n = at-most-says (ordered e.kind) e.low e.high s.0 in
    rw (n.0, n.1, s.1)

-- what is said of a stored range has one of the three numbers, or none
module _ (m : ℕ) (some : eqb 0 m ≡ false) (nan : eqb refusals.not_a_number m ≡ false) (far : eqb refusals.infinite m ≡ false)
    (turned : eqb refusals.reversed m ≡ false) where
  pub stored_other : (v : Verdict) (place : ℕ) → Other m (stored_refusal v place)
  stored_other (Sound r) place = record { apart = some }
  stored_other (Infinite r) place = record { apart = far }
  stored_other InfiniteReversed place = record { apart = far }
  stored_other NotANumber place = record { apart = nan }
  stored_other Reversed place = record { apart = turned }
