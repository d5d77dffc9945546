-- What becomes of a range that was made of patterns, where its ends' patterns are asked for again? A pattern that is no NaN's comes back as it
-- was, and a NaN's comes back as a NaN's, so the range compares as its patterns do: comparing what was read is comparing the bytes.
-- Assumes nothing.
use mathlib.Core.Path.{◌≡◌, refl, sym, ap, ◌∙◌}
use mathlib.Core.Logic.{◌⊎◌, inl, inr}
use mathlib.Core.Bool.{Bool, true, false}
use mathlib.Core.List.{List, [], ◌∷◌}
use Prim.Native.Nat.{ℕ, ◌+◌, ◌≤◌, ◌<◌, ◌^◌}
use native.Mathlib.Nat.{mod-eq_of_lt, add-zero, zero-add}
use native.Mathlib.Omega.{arith}
use types.Run.{OneOf, miss}
use denote.Enum.Declared.{tag_of}
use lib.ListN.{length, get_or, take, drop, length-take, length-drop}
use lib.Ieee.{Format, binary32, binary64, to_bits, of_bits, nan_bits}
use lib.IntN.{ℤ}
use lib.Signed.{mag}
use mir.Syntax.{Width, w32, w64}
use mir.Val.{Fits, width_of, hbits, to_z, of_z}
use mir.ValLaws.{to_z-of_z, of_z-to_z}
use Rattle.order.specs.Little.{little}
use Rattle.order.proofs.Little.{little-part}
use Rattle.order.proofs.Pairs.{there, first-lt, second_lt}
use Rattle.order.proofs.Read.{nan-read, bits-read}
use Rattle.description.specs.contracts.Kind.{the_type}
use Rattle.description.specs.declared.Kind.{Kind}
use Rattle.description.specs.declared.Kind.TheVariants.{Int32, Int64, Float32, Float64, Uint64}
use Rattle.description.specs.Kinds.{range_bytes, end_bytes, is_nan, ordered}
use Rattle.description.proofs.Datatypes.{when-same}
use Rattle.description.proofs.Patterns.{Alike, alike-left, alike_right}
use Rattle.ranges.specs.declared.Range.{Range}
use Rattle.ranges.specs.Ranges.{Ends, ends, kind_of, ends_at, ends_of, fitted, range_of, range_at, inside, meets}
use Rattle.ranges.proofs.Comparing.{when-known, within, touching, ends-kind}

-- ---- as the code makes a range: of signed values that were passed on
pub int-held : (w : Width) (x : ℤ) {p q : ℕ} → mag x < 2 ^ hbits w → x ≡ to_z w p → p ≡ q → to_z w (of_z w x) ≡ to_z w q
int-held w x f e d = to_z-of_z w x (record { sfits = f }) ∙ e ∙ ap (to_z w) d

-- ---- as the code gives its ends' patterns
module _ (k : Kind) (a b : ℕ) (r s : Range) (known : s ≡ r) (is : ends_of r ≡ ends k a b) where
  pub patterns-of : {x y : ℕ} → x ≡ a → y ≡ b → x < 256 ^ end_bytes k → y < 256 ^ end_bytes k
      → (x ≡ (ends_of s).low) × (y ≡ (ends_of s).high) × (x < 256 ^ end_bytes (kind_of s)) × (y < 256 ^ end_bytes (kind_of s))
  patterns-of p q l h = rw (← (ends-kind s), known, is) (p, q, l, h)

-- the bytes of an end, by the tag of the kind
pub four_bytes : (k : Kind) → OneOf (0 ∷ 2 ∷ []) (tag_of the_type k) → end_bytes k ≡ 4
four_bytes Int32 h = refl
four_bytes Int64 h = absurd (miss (0 ∷ 2 ∷ []) 1 tt h)
four_bytes Float32 h = refl
four_bytes Float64 h = absurd (miss (0 ∷ 2 ∷ []) 3 tt h)
four_bytes Uint64 h = absurd (miss (0 ∷ 2 ∷ []) 4 tt h)

pub eight-bytes : (k : Kind) → OneOf (1 ∷ 3 ∷ 4 ∷ []) (tag_of the_type k) → end_bytes k ≡ 8
eight-bytes Int32 h = absurd (miss (1 ∷ 3 ∷ 4 ∷ []) 0 tt h)
eight-bytes Int64 h = refl
eight-bytes Float32 h = absurd (miss (1 ∷ 3 ∷ 4 ∷ []) 2 tt h)
eight-bytes Float64 h = refl
eight-bytes Uint64 h = refl

-- and by the kinds of that many
pub four_bytes-kinds : (k : Kind) → (k ≡ Int32) ⊎ (k ≡ Float32) → end_bytes k ≡ 4
four_bytes-kinds k (inl e) = rw e
four_bytes-kinds k (inr e) = rw e

pub eight_bytes-kinds : (k : Kind) → (k ≡ Int64) ⊎ ((k ≡ Float64) ⊎ (k ≡ Uint64)) → end_bytes k ≡ 8
eight_bytes-kinds k (inl e) = rw e
eight_bytes-kinds k (inr (inl e)) = rw e
eight_bytes-kinds k (inr (inr e)) = rw e

-- ---- a pattern that fits, and its value's
pub fitted-same : (k : Kind) (p : ℕ) → p < 256 ^ end_bytes k → fitted k p ≡ p
fitted-same k p h = mod-eq_of_lt h

abbrev pub again : Kind → ℕ → ℕ
again Int32 p = of_z w32 (to_z w32 p)
again Int64 p = of_z w64 (to_z w64 p)
again Float32 p = to_bits binary32 (of_bits binary32 p)
again Float64 p = to_bits binary64 (of_bits binary64 p)
again Uint64 p = p

ends-again : (k : Kind) (a b : ℕ) → ends_of (range_of k a b) ≡ ends k (again k a) (again k b)
unfolding ends_of
ends-again Int32 a b = refl
ends-again Int64 a b = refl
ends-again Float32 a b = refl
ends-again Float64 a b = refl
ends-again Uint64 a b = refl

-- so where the same is said of the ends that come back and of the patterns, it is said of the range
pub as-made : (k : Kind) (a b : ℕ) {A : Type 0} (f : Ends → A) → f (ends k (again k a) (again k b)) ≡ f (ends k a b)
    → f (ends_of (range_of k a b)) ≡ f (ends k a b)
as-made k a b f e = ap f (ends-again k a b) ∙ e

float-again : (f : Format) (p : ℕ) → Fits (width_of f) p
    → (to_bits f (of_bits f p) ≡ p) ⊎ ((nan_bits f (to_bits f (of_bits f p)) ≡ true) × (nan_bits f p ≡ true))
float-again f p h = go (nan_bits f p) refl
  where
    go : (t : Bool) → nan_bits f p ≡ t → (to_bits f (of_bits f p) ≡ p) ⊎ ((nan_bits f (to_bits f (of_bits f p)) ≡ true) × (nan_bits f p ≡ true))
    go true e = inr (nan-read f p ∙ e, e)
    go false e = inl (bits-read f p h e)

pub alike-again : (k : Kind) (p : ℕ) → p < 256 ^ end_bytes k → Alike (ordered k) (again k p) p
unfolding is_nan
alike-again Int32 p h = inl (of_z-to_z w32 p (record { fits = h }))
alike-again Int64 p h = inl (of_z-to_z w64 p (record { fits = h }))
alike-again Float32 p h = float-again binary32 p (record { fits = h })
alike-again Float64 p h = float-again binary64 p (record { fits = h })
alike-again Uint64 p h = inl refl

-- ---- a range made of patterns that fit
module _ (k : Kind) (a b : ℕ) (a-fits : a < 256 ^ end_bytes k) (b-fits : b < 256 ^ end_bytes k) where
  low : Alike (ordered k) (again k a) a
  low = alike-again k a a-fits

  high : Alike (ordered k) (again k b) b
  high = alike-again k b b-fits

  pub of-inside-left : (o : Ends) → inside (ends_of (range_of k a b)) o ≡ inside (ends k a b) o
  unfolding inside
  of-inside-left o =
      as-made k a b (λ e. inside e o) (rw (alike_right (ordered k) (again k a) a o.low low, alike-left (ordered k) (again k b) b o.high high))

  pub of-meets-left : (o : Ends) → meets (ends_of (range_of k a b)) o ≡ meets (ends k a b) o
  unfolding meets
  of-meets-left o =
      as-made k a b (λ e. meets e o) (rw (alike-left (ordered k) (again k a) a o.high low, alike_right (ordered k) (again k b) b o.low high))

  pub of-inside-right : (e : Ends) → inside e (ends_of (range_of k a b)) ≡ inside e (ends k a b)
  unfolding inside
  of-inside-right e =
      as-made k a b (inside e)
      (when-same e.kind k (λ x. within (ordered x) e.low e.high (again k a) (again k b)) (λ x. within (ordered x) e.low e.high a b)
      (rw (alike-left (ordered k) (again k a) a e.low low, alike_right (ordered k) (again k b) b e.high high)))

  pub of-meets-right : (e : Ends) → meets e (ends_of (range_of k a b)) ≡ meets e (ends k a b)
  unfolding meets
  of-meets-right e =
      as-made k a b (meets e)
      (when-same e.kind k (λ x. touching (ordered x) e.low e.high (again k a) (again k b)) (λ x. touching (ordered x) e.low e.high a b)
      (rw (alike_right (ordered k) (again k b) b e.low high, alike-left (ordered k) (again k a) a e.high low)))

-- ---- a range that was read
module _ (s : List ℕ) (byte : (i : ℕ) → get_or s i 0 < 256) (k : Kind) (at : ℕ) where
  pub ends-at-fit : ((ends_at k s at).low < 256 ^ end_bytes k) × ((ends_at k s at).high < 256 ^ end_bytes k)
  unfolding ends_at
  ends-at-fit =
      (first-lt s (λ i. record { fits = byte i }) at (end_bytes k), second_lt s (λ i. record { fits = byte i }) at (end_bytes k))

  pub read-inside-left : (o : Ends) → inside (ends_of (range_at k s at)) o ≡ inside (ends_at k s at) o
  unfolding ends_at
  read-inside-left = of-inside-left k (ends_at k s at).low (ends_at k s at).high ends-at-fit.0 ends-at-fit.1

  pub read-inside-right : (e : Ends) → inside e (ends_of (range_at k s at)) ≡ inside e (ends_at k s at)
  unfolding ends_at
  read-inside-right = of-inside-right k (ends_at k s at).low (ends_at k s at).high ends-at-fit.0 ends-at-fit.1

  pub read-meets-left : (q : Ends) → meets (ends_of (range_at k s at)) q ≡ meets (ends_at k s at) q
  unfolding ends_at
  read-meets-left = of-meets-left k (ends_at k s at).low (ends_at k s at).high ends-at-fit.0 ends-at-fit.1

-- ---- a range that is read from the part that has it
two_ends : (k : Kind) → end_bytes k + end_bytes k ≡ range_bytes k
two_ends Int32 = refl
two_ends Int64 = refl
two_ends Float32 = refl
two_ends Float64 = refl
two_ends Uint64 = refl

module _ (k : Kind) (s : List ℕ) (at w : ℕ) (size : w ≡ range_bytes k) (fits : at + w ≤ length s) where
  pub part-ends : ends_at k (take w (drop at s)) 0 ≡ ends_at k s at
  unfolding ends_at
  part-ends =
      let m = end_bytes k in
      let two = two_ends k in
      let long : length (take w (drop at s)) ≡ w = simp (length-take, length-drop) (omega arith) in
      let whole = there s at m (omega arith) refl refl in
      let part = there (take w (drop at s)) 0 m (omega arith) refl refl in
      let low : little (take w (drop at s)) 0 m ≡ little s at m = little-part s at w 0 m (omega arith) ∙ rw add-zero in
      let high : little (take w (drop at s)) (0 + m) m ≡ little s (at + m) m = little-part s at w (0 + m) m (omega arith) ∙ rw zero-add in
      rw (← part.0, ← part.1, low, high, ← whole.0, ← whole.1)

  pub part-range : range_at k (take w (drop at s)) 0 ≡ range_at k s at
  part-range = rw part-ends

-- its kind is known where it is read
module _ (known : Kind) {k : Kind} (s : List ℕ) (at : ℕ) (same : k ≡ known) (there : at + range_bytes k ≤ length s) where
  pub known-fits : at + range_bytes known ≤ length s
  known-fits = rw same at there

  pub known-ends : (w : ℕ) → w ≡ range_bytes known → ends_at known (take w (drop at s)) 0 ≡ ends_at k s at
  known-ends w size = part-ends known s at w size (omega (arith, known-fits)) ∙ ap (λ (x : Kind). ends_at x s at) (sym same)

  pub known-part : {r : Range} (w : ℕ) → w ≡ range_bytes known → r ≡ range_at known (take w (drop at s)) 0 → r ≡ range_at k s at
  known-part w size read = when-known (λ x. range_at x s at) same (read ∙ part-range known s at w size (omega (arith, known-fits)))
