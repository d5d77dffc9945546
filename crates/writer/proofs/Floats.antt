-- Floats that are no NaNs are ordered by their values as their patterns are by their keys: so the lower value of two is that of
-- the pattern with the lower key (`lower_of`, `higher-of`).
-- Assumes nothing.
use mathlib.Core.Path.{◌≡◌, refl, sym, ap, ◌∙◌}
use mathlib.Core.Bool.{Bool, true, false, not, ◌&&◌, cond, true≢false}
use mathlib.Core.List.{List}
use Prim.Native.Nat.{ℕ, suc, ◌+◌, ◌*◌, ◌^◌, ◌≤◌, ◌<◌}
use native.Mathlib.Omega.{arith}
use lib.Dec.{T, leb, ltb}
use lib.ListN.{get_or}
use lib.Ieee.{Float, nan, inf, fin, Format, binary32, binary64, up, down, below, lt, le, eq, of_bits, to_bits, nan_bits, is_nan}
use lib.Ieee.Bits.{nan_bits_is}
use borrow.Author.Tests.{lt-ltb, le-ltb, leb-true, leb-false}
use mir.Val.{Fits, width_of}
use Rattle.order.specs.Key.{float_key}
use Rattle.order.proofs.Tests.{not-leb}
use Rattle.order.proofs.Sides.{at_most, either_is}
use Rattle.order.proofs.Floats.{le-by-key}
use Rattle.order.proofs.Read.{bits-read, no_nan}
use Rattle.description.specs.declared.Kind.{Kind}
use Rattle.description.specs.declared.Kind.TheVariants.{Float32, Float64}
use Rattle.description.specs.Kinds as kinds
use Rattle.ranges.specs.Ranges.{ends_at, has_nan}
use Rattle.ranges.proofs.Containing.{numbers}
use Rattle.ranges.proofs.Reading.{ends-at-fit}
use Rattle.writer.specs.Code.Rows.{lowest_of, highest_of, SideRow}
use Rattle.writer.proofs.Choosing.{other_way, low-taken, high_taken}
use Rattle.writer.proofs.Sides.{lowest-in, highest-in}

-- below means not at least
some-magnitude : (a b : ℕ) → ltb 0 (a + b) ≡ not (leb b 0 && leb a 0)
some-magnitude a b = go (leb b 0) refl (leb a 0) refl
  where
    go : (s : Bool) → leb b 0 ≡ s → (t : Bool) → leb a 0 ≡ t → ltb 0 (a + b) ≡ not (s && t)
    go true e true h = le-ltb 0 (a + b) (omega (arith, leb-true b 0 e, leb-true a 0 h))
    go true e false h = lt-ltb 0 (a + b) (omega (arith, leb-false a 0 h))
    go false e t h = lt-ltb 0 (a + b) (omega (arith, leb-false b 0 e))

below-is : (s t : Bool) (a b : ℕ) → below s a t b ≡ not (at_most t b s a)
below-is false false a b = sym (not-leb a b)
below-is false true a b = refl
below-is true false a b = some-magnitude a b
below-is true true a b = sym (not-leb b a)

less-is : (x y : Float) → is_nan x ≡ false → is_nan y ≡ false → lt x y ≡ not (le y x)
unfolding lt le eq is_nan
less-is nan y h k = absurd (true≢false h)
less-is (inf s) nan h k = absurd (true≢false k)
less-is (fin s m e) nan h k = absurd (true≢false k)
less-is (inf true) (inf true) h k = refl
less-is (inf true) (inf false) h k = refl
less-is (inf false) (inf true) h k = refl
less-is (inf false) (inf false) h k = refl
less-is (inf true) (fin t n d) h k = refl
less-is (inf false) (fin t n d) h k = refl
less-is (fin s m e) (inf true) h k = refl
less-is (fin s m e) (inf false) h k = refl
less-is (fin s m e) (fin t n d) h k =
    below-is s t (m * up e * down d) (n * up d * down e)
    ∙ ap not (sym (either_is t s (n * up d * down e) (m * up e * down d)))

less-by-key : (f : Format) (a b : ℕ) → nan_bits f a ≡ false → nan_bits f b ≡ false → lt (of_bits f a) (of_bits f b) ≡ ltb (float_key f a) (float_key f b)
less-by-key f a b p q =
    less-is (of_bits f a) (of_bits f b) (sym (nan_bits_is f a) ∙ p) (sym (nan_bits_is f b) ∙ q)
    ∙ ap not (le-by-key f b a q p)
    ∙ not-leb (float_key f a) (float_key f b)

module _ (f : Format) (a b : ℕ) (p : nan_bits f a ≡ false) (q : nan_bits f b ≡ false) where
  -- the values x and y are those of the patterns a and b: the second where it is strictly lower, or strictly higher
  module _ (x y r : Float) (d : x ≡ of_bits f a) (e : y ≡ of_bits f b) where
    pub lower_of : r ≡ cond (lt y x) y x → r ≡ cond (ltb (float_key f b) (float_key f a)) (of_bits f b) (of_bits f a)
    lower_of h = h ∙ rw (d, e, less-by-key f b a q p)

    pub higher-of : r ≡ cond (le y x) x y → r ≡ cond (ltb (float_key f a) (float_key f b)) (of_bits f b) (of_bits f a)
    higher-of h = h ∙ rw (d, e, le-by-key f b a q p) (other_way (float_key f b) (float_key f a) (of_bits f a) (of_bits f b))

-- the ends of a range that has no NaN
pub no-nans : (kind : Kind) (s : List ℕ) (at : ℕ) → has_nan (ends_at kind s at) ≡ false
    → (kinds.is_nan kind (ends_at kind s at).low ≡ false) × (kinds.is_nan kind (ends_at kind s at).high ≡ false)
unfolding ends_at
no-nans kind s at h = numbers (ends_at kind s at) h

-- a kind of floats
pub record FloatKind (f : Format) (kind : Kind) : Type 0 where
  pub nan_is : (p : ℕ) → kinds.is_nan kind p ≡ nan_bits f p
  pub key-is : (p : ℕ) → kinds.key kind p ≡ float_key f p
  pub wide : (p : ℕ) → p < 256 ^ kinds.end_bytes kind → Fits (width_of f) p

pub float32 : FloatKind binary32 Float32
unfolding kinds.is_nan kinds.key
float32 = record { nan_is = λ p. refl; key-is = λ p. refl; wide = λ p h. record { fits = h } }

pub float64 : FloatKind binary64 Float64
unfolding kinds.is_nan kinds.key
float64 = record { nan_is = λ p. refl; key-is = λ p. refl; wide = λ p h. record { fits = h } }

-- a row of floats, by values
module _ {f : Format} {kind : Kind} (k : FloatKind f kind) {level : List ℕ} {b side first count : ℕ} (row : SideRow kind level b side first count) where
  abbrev low : ℕ → ℕ
  low c = (ends_at kind level (c * b + side)).low

  abbrev high : ℕ → ℕ
  high c = (ends_at kind level (c * b + side)).high

  -- no end of it is a NaN
  pub low-number : (c p : ℕ) → first ≤ c → c < first + count → p ≡ low c → T (not (nan_bits f p))
  low-number c p from to e = no_nan f p (rw e (sym (k.nan_is (low c)) ∙ (no-nans kind level (c * b + side) (row.numbers c from to)).0))

  pub high-number : (c p : ℕ) → first ≤ c → c < first + count → p ≡ high c → T (not (nan_bits f p))
  high-number c p from to e = no_nan f p (rw e (sym (k.nan_is (high c)) ∙ (no-nans kind level (c * b + side) (row.numbers c from to)).1))

  -- of the boxes from `first` on, 1 + more of them
  module _ (more : ℕ) (within : suc (first + more) ≤ first + count) where
    abbrev lowest : ℕ
    lowest = lowest_of kind level b side first more

    abbrev highest : ℕ
    highest = highest_of kind level b side first more

    lowest-number : nan_bits f (low lowest) ≡ false
    lowest-number =
        let i = lowest-in kind level b side first more in
        sym (k.nan_is (low lowest)) ∙ (no-nans kind level (lowest * b + side) (row.numbers lowest i.0 (omega (arith, i.1)))).0

    highest-number : nan_bits f (high highest) ≡ false
    highest-number =
        let i = highest-in kind level b side first more in
        sym (k.nan_is (high highest)) ∙ (no-nans kind level (highest * b + side) (row.numbers highest i.0 (omega (arith, i.1)))).1

    -- with one box more
    module _ (new : ℕ) (is : new ≡ suc (first + more)) (to : new < first + count) (x y r : Float) where
      pub next_low : x ≡ of_bits f (low lowest) → y ≡ of_bits f (low new) → r ≡ cond (lt y x) y x
          → r ≡ of_bits f (low (lowest_of kind level b side first (suc more)))
      next_low d e q =
          let n = sym (k.nan_is (low new)) ∙ (no-nans kind level (new * b + side) (row.numbers new (omega arith) to)).0 in
          lower_of f (low lowest) (low new) lowest-number n x y r d e q
          ∙ rw (← (k.key-is (low new)), ← (k.key-is (low lowest))) (low-taken kind level b side first more new is (λ c. of_bits f (low c)) lowest refl)

      pub next-high : x ≡ of_bits f (high highest) → y ≡ of_bits f (high new) → r ≡ cond (le y x) x y
          → r ≡ of_bits f (high (highest_of kind level b side first (suc more)))
      next-high d e q =
          let n = sym (k.nan_is (high new)) ∙ (no-nans kind level (new * b + side) (row.numbers new (omega arith) to)).1 in
          higher-of f (high highest) (high new) highest-number n x y r d e q
          ∙ rw (← (k.key-is (high highest)), ← (k.key-is (high new))) (high_taken kind level b side first more new is (λ c. of_bits f (high c)) highest refl)

    -- and in the end their patterns, which are bytes of the level
    module _ (byte : (i : ℕ) → get_or level i 0 < 256) (x : Float) where
      pub low_value : x ≡ of_bits f (low lowest) → T (not (is_nan x))
      low_value e = rw (e, ← (nan_bits_is f (low lowest)), lowest-number) tt

      pub high_value : x ≡ of_bits f (high highest) → T (not (is_nan x))
      high_value e = rw (e, ← (nan_bits_is f (high highest)), highest-number) tt

      pub low_bits : x ≡ of_bits f (low lowest) → to_bits f x ≡ low lowest
      low_bits e = ap (to_bits f) e ∙ bits-read f (low lowest) (k.wide (low lowest) (ends-at-fit level byte kind (lowest * b + side)).0) lowest-number

      pub high_bits : x ≡ of_bits f (high highest) → to_bits f x ≡ high highest
      high_bits e = ap (to_bits f) e ∙ bits-read f (high highest) (k.wide (high highest) (ends-at-fit level byte kind (highest * b + side)).1) highest-number
