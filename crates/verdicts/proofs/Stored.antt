-- What a stored range that isn't refused has, and which other ranges are such: one with its ends from two of them, in order, and one that equals one.
-- Assumes nothing.
use mathlib.Core.Path.{◌≡◌, ◌∙◌}
use mathlib.Core.Bool.{true, false}
use Prim.Native.Nat.{ℕ, ◌≤◌}
use native.Mathlib.Omega.{arith}
use Rattle.answers.specs.Refusals.{none}
use Rattle.description.specs.declared.Kind.{Kind}
use Rattle.description.specs.Kinds.{key, is_nan, is_infinite, ordered}
use Rattle.description.proofs.Keys.{infinite-by-key}
use Rattle.description.proofs.Tests.{neither}
use Rattle.description.proofs.Patterns.{at-most-says, at-most-when}
use Rattle.ranges.specs.declared.Range.{Range}
use Rattle.ranges.specs.Ranges.{ends, has_nan, inside}
use Rattle.ranges.proofs.Containing.{inside-says}
use Rattle.verdicts.specs.Verdicts.{verdict, stored_refusal}
use Rattle.verdicts.proofs.Judging.{stored-clear, stored-sound}

-- what a stored range that isn't refused has
module _ (k : Kind) (a b : ℕ) (r : Range) (place : ℕ) (clear : (stored_refusal (verdict (ends k a b) r) place).number ≡ 0) where
  stored-ends : (is_nan k a ≡ false) × (is_nan k b ≡ false) × (key k a ≤ key k b)
  stored-ends = at-most-says (ordered k) a b (stored-clear k a b r place clear).0

  stored-infinite : (is_infinite k a ≡ false) × (is_infinite k b ≡ false)
  stored-infinite = neither (is_infinite k a) (is_infinite k b) (stored-clear k a b r place clear).1

  pub stored-numbers : has_nan (ends k a b) ≡ false
  unfolding has_nan
  stored-numbers = rw (stored-ends.0, stored-ends.1)

  pub stored-order : key k a ≤ key k b
  stored-order = stored-ends.2

-- a range that has its minimum from one such and its maximum from another, in order, is another such
module _ (k : Kind) (a b : ℕ) (r : Range) (at : ℕ) (first : (stored_refusal (verdict (ends k a b) r) at).number ≡ 0)
    (c d : ℕ) (s : Range) (to : ℕ) (second : (stored_refusal (verdict (ends k c d) s) to).number ≡ 0) where
  pub stored-mixed : key k a ≤ key k d → (t : Range) (place : ℕ) → stored_refusal (verdict (ends k a d) t) place ≡ none
  stored-mixed l t place =
      stored-sound k a d t place
      (at-most-when (ordered k) a d (stored-ends k a b r at first).0 (stored-ends k c d s to second).1 l)
      (stored-infinite k a b r at first).0
      (stored-infinite k c d s to second).1

-- a range that is equal to such a one, each inside the other, is such a one too
module _ (k : Kind) (a b : ℕ) (r : Range) (place : ℕ) (clear : (stored_refusal (verdict (ends k a b) r) place).number ≡ 0) where
  pub stored_same : (c d : ℕ) → inside (ends k c d) (ends k a b) ≡ true → inside (ends k a b) (ends k c d) ≡ true
      → (t : Range) (to : ℕ) → stored_refusal (verdict (ends k c d) t) to ≡ none
  stored_same c d p q t to =
      let s = (inside-says (ends k c d) (ends k a b) p).1 in
      let u = (inside-says (ends k a b) (ends k c d) q).1 in
      let low = at-most-says (ordered k) a c s.0 in
      let high = at-most-says (ordered k) d b s.1 in
      let lower = at-most-says (ordered k) c a u.0 in
      let higher = at-most-says (ordered k) b d u.1 in
      let own = stored-infinite k a b r place clear in
      stored-sound k c d t to
      (at-most-when (ordered k) c d low.1 high.0 (omega (arith, lower.2, stored-order k a b r place clear, higher.2)))
      (infinite-by-key k c a (omega (arith, low.2, lower.2)) ∙ own.0)
      (infinite-by-key k d b (omega (arith, high.2, higher.2)) ∙ own.1)
