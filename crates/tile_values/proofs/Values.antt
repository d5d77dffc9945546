-- What is known of accepted mins and maxes of a fixed kind? No value is a NaN, and each min is at most its max in the
-- kind's order.
-- Assumes nothing.
use mathlib.Core.Path.{◌≡◌, sym, ap, ◌∙◌}
use mathlib.Core.Logic.{◌⊎◌, inl, inr}
use mathlib.Core.Bool.{Bool, true, false, not, cond}
use mathlib.Core.List.{List}
use Prim.Native.Nat.{ℕ, ◌+◌, ◌*◌, ◌^◌, ◌≤◌, ◌<◌}
use native.Mathlib.Nat.{one-le-pow}
use native.Mathlib.Omega.{arith}
use denote.Floats.{is_true}
use lib.Dec.{ltb, eqb}
use lib.ListN.{length, get_or}
use lib.Ieee.{Format, of_bits, to_bits, fits}
use lib.Ieee.Bits.{of_bits-fits}
use borrow.Author.Tests.{ltb-false, le-ltb, eqb-true, not-false}
use Rattle.answers.specs.Refusals.{none, bytes, not_a_number, reversed}
use Rattle.answers.specs.Checks.{check}
use Rattle.answers.specs.declared.Refusal.{Refusal}
use Rattle.answers.proofs.Checks.{past, clear, check-clear, check-none, each_none, last}
use Rattle.order.specs.Key.{float_at_most}
use Rattle.order.proofs.Little.{little-lt}
use Rattle.order.proofs.Floats.{le-of-bits, le-of-floats}
use Rattle.description.specs.declared.Kind.{Kind}
use Rattle.description.specs.declared.Kind.TheVariants.{Int32, Int64, Uint64}
use Rattle.description.specs.Kinds.{end_bytes, is_nan, key, ordered, at_most}
use Rattle.description.proofs.Patterns.{at-most-says, at-most-when}
use Rattle.tile_metadata.specs.Bodies.{buffer_size, layout_refusal, value_of}
use Rattle.tile_metadata.proofs.Bodies.{Laid, laid, both-accepted}
use Rattle.tile_metadata.proofs.Turns.{values-keep, none-break}
use Rattle.tile_metadata.proofs.Asked.{no_value}
use Rattle.tile_values.specs.Values.{pattern, fixed_refusal, nan_breaks, order_breaks, values_refusal, min_above}
use Rattle.tile_values.specs.Values.{maxes_refusal, pair_answer}
use Rattle.tile_values.specs.Values.{pattern_of, bounds_of}

-- n values of the kind's width and nothing else
pub record Fixed (k : Kind) (n : ℕ) (s : List ℕ) : Type 0 where
  pub layout : Laid (end_bytes k) n s
  pub empty : buffer_size (end_bytes k) n s ≡ 0

pub fixed : (k : Kind) (n : ℕ) (s : List ℕ) → (fixed_refusal k n s).number ≡ 0 → Fixed k n s
unfolding fixed_refusal
fixed k n s h =
    let a = clear _ _ h in
    let b = clear _ _ a.1 in
    record {
      layout = laid (end_bytes k) n s a.0;
      empty = eqb-true _ _ (not-false _ (check-clear (not (eqb (buffer_size (end_bytes k) n s) 0)) bytes (length s) (omega arith) b.0));
    }

-- none of them a NaN
pub record Sound (k : Kind) (n : ℕ) (s : List ℕ) : Type 0 where
  pub laid_out : Fixed k n s
  pub values : (i : ℕ) → i < n → is_nan k (pattern k s i) ≡ false

pub sound : (k : Kind) (n : ℕ) (s : List ℕ) → (values_refusal k n s).number ≡ 0 → Sound k n s
unfolding values_refusal
sound k n s h =
    let a = clear _ _ h in
    let c = clear _ _ a.1 in
    record {
      laid_out = fixed k n s a.0;
      values = λ i l. values-keep (λ j. is_nan k (pattern k s j)) not_a_number (end_bytes k) n (omega arith) c.0 i (omega arith) (omega arith);
    }

-- a value is in its kind's range of patterns, those of its width, of any bytes
pub in-range : (k : Kind) (n : ℕ) (s : List ℕ) (i : ℕ) → ((j : ℕ) → get_or s j 0 < 256) → pattern_of k n s i < 256 ^ end_bytes k
unfolding value_of
in-range k n s i byte = go (ltb i n)
  where
    go : (t : Bool) → cond t (pattern k s i) 0 < 256 ^ end_bytes k
    go true = little-lt s (λ j. record { fits = byte j }) (8 + end_bytes k * i) (end_bytes k)
    go false = one-le-pow (end_bytes k) 256 (omega arith)

-- "a tile's min above its max is 9": of an accepted pair every min is at most its max
pub record InOrder (k : Kind) (n : ℕ) (mins maxes : List ℕ) : Type 0 where
  pub first : Sound k n mins
  pub second : Sound k n maxes
  pub at-most : (i : ℕ) → i < n → at_most (ordered k) (pattern k mins i) (pattern k maxes i) ≡ true

pub pair-in-order : (k : Kind) (n : ℕ) (mins maxes : List ℕ) → (pair_answer k n mins maxes).number ≡ 0 → InOrder k n mins maxes
unfolding maxes_refusal
pair-in-order k n mins maxes h =
    let both = both-accepted n (values_refusal k n mins) (maxes_refusal k n mins maxes) h in
    let second = clear _ _ both.1 in
    let order = clear _ _ second.1 in
    let a = sound k n mins both.0 in
    let b = sound k n maxes second.0 in
    record {
      first = a;
      second = b;
      at-most = λ i l.
          at-most-when (ordered k) (pattern k mins i) (pattern k maxes i) (a.values i l) (b.values i l)
          (ltb-false _ _ (values-keep (min_above k mins maxes) reversed (end_bytes k) n (omega arith) order.0 i (omega arith) (omega arith)));
    }

-- ---- as code goes through the checks
module _ (k : Kind) (n : ℕ) (s : List ℕ) where
  pub size-decides : (layout_refusal (end_bytes k) n s).number ≡ 0
      → fixed_refusal k n s ≡ check (not (eqb (buffer_size (end_bytes k) n s) 0)) bytes (length s)
  unfolding fixed_refusal
  size-decides h =
      past _ _ h ∙ last _ (check-none (not (eqb (buffer_size (end_bytes k) n s) 0)) bytes (length s) (omega arith))

  pub values-decide : (fixed_refusal k n s).number ≡ 0
      → values_refusal k n s ≡ nan_breaks k n s
  unfolding values_refusal
  values-decide h = past _ _ h ∙ last _ (each_none _ 0 n)

module _ (k : Kind) (n : ℕ) (mins maxes : List ℕ) where
  pub order-decides : (values_refusal k n maxes).number ≡ 0
      → maxes_refusal k n mins maxes ≡ order_breaks k n mins maxes
  unfolding maxes_refusal
  order-decides h = past _ _ h ∙ last _ (each_none _ 0 n)

-- ---- every min at most its max: nothing is said of either body's values
module _ (k : Kind) (n : ℕ) (mins maxes : List ℕ) where
  pub accepted : (fixed_refusal k n mins).number ≡ 0 → (fixed_refusal k n maxes).number ≡ 0
      → ((i : ℕ) → i < n → at_most (ordered k) (pattern k mins i) (pattern k maxes i) ≡ true)
      → (values_refusal k n mins ≡ none) × (maxes_refusal k n mins maxes ≡ none)
  accepted f g each =
      let says : (i : ℕ) → i < n → (is_nan k (pattern k mins i) ≡ false) × (is_nan k (pattern k maxes i) ≡ false)
      × (key k (pattern k mins i) ≤ key k (pattern k maxes i))
      = λ i l. at-most-says (ordered k) (pattern k mins i) (pattern k maxes i) (each i l) in
      let second = values-decide k n maxes g ∙ none-break _ not_a_number (end_bytes k) n (λ i l. (says i l).1) in (
        values-decide k n mins f ∙ none-break _ not_a_number (end_bytes k) n (λ i l. (says i l).0),
        order-decides k n mins maxes (ap (λ (r : Refusal). r.number) second)
            ∙ none-break (min_above k mins maxes) reversed (end_bytes k) n (λ i l. le-ltb _ _ (says i l).2),
      )

-- ---- a kind that isn't a float's has no NaN
pub no_nan : (k : Kind) (p : ℕ) → (k ≡ Int32) ⊎ ((k ≡ Int64) ⊎ (k ≡ Uint64)) → false ≡ is_nan k p
unfolding is_nan
no_nan k p (inl e) = rw e
no_nan k p (inr (inl e)) = rw e
no_nan k p (inr (inr e)) = rw e

-- ---- two floats read from their patterns compare as the patterns do
pub read-order : (f : Format) (p q : ℕ) → float_at_most f (to_bits f (of_bits f p)) (to_bits f (of_bits f q)) ≡ float_at_most f p q
read-order f p q =
    sym (le-of-floats f (of_bits f p) (of_bits f q) (is_true (fits f (of_bits f p)) (of_bits-fits f p)) (is_true (fits f (of_bits f q)) (of_bits-fits f q)))
    ∙ le-of-bits f p q

-- ---- no value of 0 tiles
pub no-bounds : (k : Kind) (mins maxes : List ℕ) (i : ℕ) → bounds_of k 0 mins maxes i ≡ record { min = 0; max = 0 }
no-bounds k mins maxes i = rw (no_value (end_bytes k) mins i, no_value (end_bytes k) maxes i)
