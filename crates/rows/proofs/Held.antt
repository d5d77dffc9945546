-- One range held against another. Between the ends of a finite range there is no infinity, so what is in order there is sound. And what was read
-- of both from their bytes lies as the bytes say.
-- Assumes nothing.
use mathlib.Core.Path.{◌≡◌, refl, sym, ap, ◌∙◌, subst}
use mathlib.Core.Bool.{Bool, true, false, not, ◌&&◌, true≢false}
use mathlib.Core.List.{List}
use Prim.Native.Nat.{ℕ, ◌+◌, ◌≤◌, ◌<◌}
use native.Mathlib.Nat.{le_trans}
use native.Mathlib.Decide.{dec_lt}
use lib.ListN.{length, get_or, take, drop}
use native.Mathlib.Omega.{arith}
use borrow.Author.Tests.{not-true, eqb-true}
use lib.Ieee.{Float, binary32, binary64, of_bits}
use Rattle.order.specs.Little.{first_of_two, second_of_two}
use Rattle.description.specs.declared.Kind.{Kind}
use Rattle.description.specs.declared.Kind.TheVariants.{Float32, Float64}
use Rattle.ranges.specs.declared.Range.TheVariants.{F32, F64}
use Rattle.description.specs.declared.Dimension.{Dimension}
use Rattle.description.specs.Kinds.{range_bytes, is_infinite, ordered, at_most}
use Rattle.description.specs.Description.{kind_at, side_start}
use Rattle.description.proofs.Sides.{start_up}
use Rattle.description.proofs.Tests.{both, neither, and-false}
use Rattle.description.proofs.Patterns.{at-most-says}
use Rattle.description.proofs.Keys.{finite-between}
use Rattle.ranges.specs.declared.Range.{Range}
use Rattle.ranges.specs.Ranges.{Ends, kind_of, ends_at, ends_of, range_at, has_nan, inside}
use Rattle.ranges.proofs.Comparing.{ends-kind}
use Rattle.ranges.proofs.Containing.{inside-says}
use Rattle.ranges.proofs.Reading.{read-inside-left, read-inside-right, known-ends}
use Rattle.verdicts.specs.Verdicts.{has_infinity, is_finite, verdict}
use Rattle.verdicts.proofs.Judging.{sound, stored-clear, stored-finite}
use Rattle.verdicts.proofs.Reading.{read-verdict, read-finite}
use Rattle.boxes.specs.Boxes.{side_at}
use Rattle.rows.specs.Code.Row.{is_sound, sound_within, SoundBox}

-- no end of a finite range is NaN, and none is infinite
pub finite-nan : (e : Ends) → is_finite e ≡ true → has_nan e ≡ false
finite-nan e h = not-true (has_nan e) (both (not (has_nan e)) (not (has_infinity e)) h).0

finite-infinity : (e : Ends) → is_finite e ≡ true → has_infinity e ≡ false
finite-infinity e h = not-true (has_infinity e) (both (not (has_nan e)) (not (has_infinity e)) h).1

module _ (e o : Ends) (r : Range) (finite : is_finite o ≡ true) where
  abbrev order : Bool
  order = at_most (ordered e.kind) e.low e.high

  when-inside : inside e o ≡ true → (t : Bool) → order ≡ t → t ≡ is_sound (verdict e r)
  unfolding has_nan has_infinity
  when-inside h true l =
      let s = inside-says e o h in
      let k = e.kind in
      let low = at-most-says (ordered k) o.low e.low s.1.0 in
      let own = at-most-says (ordered k) e.low e.high l in
      let high = at-most-says (ordered k) e.high o.high s.1.1 in
      let ends = neither _ _ (finite-infinity o finite) in
      let first = ap (λ (x : Kind). is_infinite x o.low) s.0 ∙ ends.0 in
      let last = ap (λ (x : Kind). is_infinite x o.high) s.0 ∙ ends.1 in
      sym (
      rw (sound k e.low e.high r l
      (finite-between k o.low e.low o.high low.0 high.1 low.2 (le_trans own.2 high.2) first last)
      (finite-between k o.low e.high o.high low.0 high.1 (le_trans low.2 own.2) high.2 first last))
      )
  when-inside h false l = go (is_sound (verdict e r)) refl
    where
      go : (t : Bool) → is_sound (verdict e r) ≡ t → false ≡ t
      go false q = refl
      go true q = absurd (true≢false (sym (stored-clear e.kind e.low e.high r 0 (eqb-true _ 0 q)).0 ∙ l))

  pub between_is : (order && inside e o) ≡ (is_sound (verdict e r) && inside e o)
  between_is = go (inside e o) refl
    where
      go : (t : Bool) → inside e o ≡ t → (order && t) ≡ (is_sound (verdict e r) && t)
      go true h = rw (when-inside h order refl)
      go false h = and-false order ∙ sym (and-false (is_sound (verdict e r)))

-- as the code tells it
module _ (r o : Range) (finite : is_finite (ends_of o) ≡ true) {t : Bool} (p : t ≡ at_most (ordered (kind_of r)) (ends_of r).low (ends_of r).high) where
  by_order : (b : Bool) → t ≡ b → (b && inside (ends_of r) (ends_of o)) ≡ (is_sound (verdict (ends_of r) r) && inside (ends_of r) (ends_of o))
  by_order b h =
      ap (λ (x : Bool). x && inside (ends_of r) (ends_of o)) (sym h ∙ p ∙ ap (λ (k : Kind). at_most (ordered k) (ends_of r).low (ends_of r).high) (sym (ends-kind r)))
      ∙ between_is (ends_of r) (ends_of o) r finite

  pub told-inside : {u : Bool} → u ≡ inside (ends_of r) (ends_of o) → t ≡ true → u ≡ (is_sound (verdict (ends_of r) r) && inside (ends_of r) (ends_of o))
  told-inside q h = q ∙ by_order true h

  pub told-apart : t ≡ false → t ≡ (is_sound (verdict (ends_of r) r) && inside (ends_of r) (ends_of o))
  told-apart h = h ∙ by_order false h

-- of two ranges that were read
module _ (k : Kind) (bytes outer : List ℕ) (at : ℕ) (byte : (i : ℕ) → get_or bytes i 0 < 256) (outer-byte : (i : ℕ) → get_or outer i 0 < 256) where
  pub read-within : {t : Bool} (r o : Range) → r ≡ range_at k bytes at → o ≡ range_at k outer at
      → t ≡ (is_sound (verdict (ends_of r) r) && inside (ends_of r) (ends_of o)) → t ≡ sound_within k bytes outer at
  read-within r o p q h =
      h ∙ rw (p, q, read-verdict bytes byte k at, read-inside-left bytes byte k at, read-inside-right outer outer-byte k at)

  pub finite-read : (o : Range) → o ≡ range_at k outer at → is_finite (ends_at k outer at) ≡ true → is_finite (ends_of o) ≡ true
  finite-read o q h = ap (λ (x : Range). is_finite (ends_of x)) q ∙ read-finite outer outer-byte k at ∙ h

-- the part of a box that has a finite range of a kind that is known has no NaN
pub part-nan : (known : Kind) {k : Kind} (s : List ℕ) (at w : ℕ) → k ≡ known → at + range_bytes k ≤ length s → w ≡ range_bytes known → is_finite (ends_at k s at) ≡ true
    → has_nan (ends_at known (take w (drop at s)) 0) ≡ false
part-nan known s at w same there size h = ap has_nan (known-ends known s at same there w size) ∙ finite-nan (ends_at _ s at) h

-- ---- a box that is looked at side by side
module _ (kinds : List Dimension) (bytes : List ℕ) where
  -- a range that was found sound is finite, as are those before it
  pub finite-next : {at : ℕ} (i : ℕ) → at ≡ side_start kinds i → ((j : ℕ) → get_or bytes j 0 < 256)
      → ((j : ℕ) → j < i → is_finite (side_at kinds bytes j) ≡ true) → (r : Range) → r ≡ range_at (kind_at kinds i) bytes at
      → {t : Bool} → t ≡ is_sound (verdict (ends_of r) r) → t ≡ true → (j : ℕ) → j < i + 1 → is_finite (side_at kinds bytes j) ≡ true
  finite-next i here byte before r read told h j l = go (dec_lt j i)
    where
      own : is_finite (side_at kinds bytes i) ≡ true
      own =
          let v : verdict (ends_of r) r ≡ verdict (side_at kinds bytes i) r =
          ap (λ (x : Range). verdict (ends_of x) r) (read ∙ rw here) ∙ read-verdict bytes byte (kind_at kinds i) (side_start kinds i) r in
          stored-finite (side_at kinds bytes i) r 0 (eqb-true _ 0 (sym (ap is_sound v) ∙ sym told ∙ h))

      go : Dec (j < i) → is_finite (side_at kinds bytes j) ≡ true
      go (yes a) = before j a
      go (no a) =
          let same : i ≡ j = omega arith in
          subst (λ x. is_finite (side_at kinds bytes x) ≡ true) same own

  -- all of them, where the box is there whole
  pub sound-box : (m : ℕ) → side_start kinds m ≤ length bytes → ((j : ℕ) → j < m → is_finite (side_at kinds bytes j) ≡ true) → SoundBox kinds m bytes
  sound-box m whole finite i l =
      (omega (arith, start_up kinds i m l), finite i l)

-- two floats that were read one after the other are a range
module _ (part : List ℕ) where
  pub floats32 : {a b : Float} → (a ≡ of_bits binary32 (first_of_two part 0 4)) × (b ≡ of_bits binary32 (second_of_two part 0 4))
      → F32 a b ≡ range_at Float32 part 0
  unfolding ends_at
  floats32 e = λ i. F32 (e.0 i) (e.1 i)

  pub floats64 : {a b : Float} → (a ≡ of_bits binary64 (first_of_two part 0 8)) × (b ≡ of_bits binary64 (second_of_two part 0 8))
      → F64 a b ≡ range_at Float64 part 0
  unfolding ends_at
  floats64 e = λ i. F64 (e.0 i) (e.1 i)
