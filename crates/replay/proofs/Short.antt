-- How long is a line that is read? It has at most ten numbers of at most 20 bytes, so that the limit of 255 bytes never decides (`limit-idle`).
-- Assumes nothing.
use mathlib.Core.Path.{◌≡◌, refl, ap, sym}
use mathlib.Core.Bool.{Bool, true, false, ◌&&◌, true≢false}
use mathlib.Core.Logic.{◌⊎◌, inl, inr}
use mathlib.Core.List.{List, [], ◌∷◌}
use Prim.Native.Nat.{ℕ, suc, ◌+◌, ◌-◌, ◌*◌, ◌/◌, ◌%◌, ◌^◌, ◌≤◌, ◌<◌}
use native.Mathlib.Nat.{div-add-mod, mod-lt, eq-or-lt_of_le}
use native.Mathlib.Decide.{dec_lt}
use native.Mathlib.Omega.{arith}
use lib.Dec.{leb, lit<}
use lib.IntN.{ℤ, pos, negsuc}
use lib.Signed.{mag}
use lib.ListN.{length, get_or, length-append}
use borrow.Author.Tests.{eqb-true, le-leb}
use Rattle.std.specs.Prelude.{Option, Some, None, is_some}
use Rattle.answers.proofs.Runs.{over-says}
use Rattle.description.specs.declared.Kind.{Kind}
use Rattle.description.specs.declared.Kind.TheVariants.{Int32, Int64, Float32, Float64, Uint64}
use Rattle.description.specs.declared.Description.{Description}
use Rattle.description.specs.Description.{kind_at, sides_of}
use Rattle.description.proofs.Tests.{both, and-false}
use Rattle.decimal.specs.Read.{read_signed, signed_text, signed32, signed64}
use Rattle.decimal.proofs.Back.{read-exact}
use Rattle.decimal.proofs.Steps.{read-most}
use Rattle.decimal.proofs.Written.{digits-enough, twenty-digits}
use Rattle.decimal.proofs.Signed.{signed-most, signed-exact}
use Rattle.ranges.specs.declared.Range.{Range}
use Rattle.ranges.specs.declared.Range.TheVariants.{I32, I64, U64}
use Rattle.range_text.specs.Ranges.{number64, from_to, read_range}
use Rattle.text.specs.Text.{Bytes, tab, parts, part, joined}
use Rattle.text.proofs.Back.{joined_back}
use Rattle.replay.specs.Records.{dimension_read, logged_found, logged_looked, numbers_read, is_readable}

-- ---- a number
number_short : (t : Bytes) → is_some (number64 t) ≡ true → length t ≤ 20
number_short t h = go (number64 t) refl h
  where
    go : (r : Option ℕ) → number64 t ≡ r → is_some r ≡ true → length t ≤ 20
    go None e h = absurd (true≢false (sym h))
    go (Some n) e h =
        omega (
          arith,
          ap length (read-exact (2 ^ 64 - 1) t n e),
          twenty-digits n (omega (arith, read-most (2 ^ 64 - 1) t e)),
        )

-- a signed one
signed_text-short : (half : ℕ) (z : ℤ) → half ≤ 2 ^ 63 → mag z < half → length (signed_text z) ≤ 20
signed_text-short half (pos n) h l = omega (arith, digits-enough 18 n (omega arith))
signed_text-short half (negsuc n) h l = omega (arith, digits-enough 18 (suc n) (omega arith))

signed-short : (half : ℕ) → 0 < half → half ≤ 2 ^ 63 → (t : Bytes) → is_some (read_signed half t) ≡ true → length t ≤ 20
signed-short half some h t r = go (read_signed half t) refl r
  where
    go : (r : Option ℤ) → read_signed half t ≡ r → is_some r ≡ true → length t ≤ 20
    go None e h = absurd (true≢false (sym h))
    go (Some z) e _ =
        omega (
          arith,
          ap length (signed-exact half t z e),
          signed_text-short half z h (signed-most half t z some e),
        )

-- both ends of a range
both_read : {N : Type 0} (range : N → N → Range) (low high : Option N) → is_some (from_to range low high) ≡ true
    → (is_some low ≡ true) × (is_some high ≡ true)
both_read range None high h = absurd (true≢false (sym h))
both_read range (Some low) None h = absurd (true≢false (sym h))
both_read range (Some low) (Some high) h = (refl, refl)

ends-short : (k : Kind) (low high : Bytes) → is_some (read_range k low high) ≡ true → (length low ≤ 20) × (length high ≤ 20)
unfolding read_range
ends-short Int32 low high h =
    let b = both_read I32 (signed32 low) (signed32 high) h in
    (signed-short (2 ^ 31) (omega arith) (omega arith) low b.0, signed-short (2 ^ 31) (omega arith) (omega arith) high b.1)
ends-short Int64 low high h =
    let b = both_read I64 (signed64 low) (signed64 high) h in
    (signed-short (2 ^ 63) (omega arith) (omega arith) low b.0, signed-short (2 ^ 63) (omega arith) (omega arith) high b.1)
ends-short Float32 low high h = absurd (true≢false (sym h))
ends-short Float64 low high h = absurd (true≢false (sym h))
ends-short Uint64 low high h =
    let b = both_read U64 (number64 low) (number64 high) h in
    (number_short low b.0, number_short high b.1)

-- ---- all of them, with the tabs
joined-short : (sep most : ℕ) (ps : List Bytes) → ((k : ℕ) → k < length ps → length (get_or ps k []) ≤ most)
    → length (joined sep ps) ≤ (most + 1) * length ps
joined-short sep most [] h = omega arith
joined-short sep most (p ∷ []) h = omega (arith, h 0 (omega arith))
joined-short sep most (p ∷ q ∷ ps) h =
    omega (
      arith,
      h 0 (omega arith),
      length-append p (sep ∷ joined sep (q ∷ ps)),
      joined-short sep most (q ∷ ps) (λ k l. h (suc k) (omega arith)),
    )

-- what is read, one by one
record Read (d : Description) (line : Bytes) : Type 0 where
  many : length (parts tab line) ≡ 2 * sides_of d.dimensions + 2
  ends : (i : ℕ) → i < sides_of d.dimensions → dimension_read d.kinds line i ≡ true
  found : is_some (logged_found d line) ≡ true
  looked : is_some (logged_looked d line) ≡ true

all_read : (d : Description) (line : Bytes) → numbers_read d line ≡ true → Read d line
unfolding numbers_read
all_read d line h =
    let x = both _ _ h in
    let y = both _ _ x.0 in
    let z = both _ _ y.0 in
    record {
      many = eqb-true _ _ z.0;
      ends = λ i l. over-says ◌&&◌ true (λ (t : Bool). t ≡ true) both (dimension_read d.kinds line) 0 (sides_of d.dimensions) z.1 i (omega arith) (omega arith);
      found = y.1;
      looked = x.1;
    }

module _ (d : Description) (line : Bytes) (r : Read d line) where
  side-short : (i : ℕ) → i < sides_of d.dimensions → (length (part tab (2 * i) line) ≤ 20) × (length (part tab (2 * i + 1) line) ≤ 20)
  side-short i l = ends-short (kind_at d.kinds i) (part tab (2 * i) line) (part tab (2 * i + 1) line) (r.ends i l)

  -- part k is a minimum, a maximum, or one of the two after them
  pair-short : (i : ℕ) → i ≤ sides_of d.dimensions → (length (part tab (2 * i) line) ≤ 20) × (length (part tab (2 * i + 1) line) ≤ 20)
  pair-short i h = go (eq-or-lt_of_le h)
    where
      go : (i ≡ sides_of d.dimensions) ⊎ (i < sides_of d.dimensions) → (length (part tab (2 * i) line) ≤ 20) × (length (part tab (2 * i + 1) line) ≤ 20)
      go (inl e) = rw e (number_short (part tab (2 * sides_of d.dimensions) line) r.found, number_short (part tab (2 * sides_of d.dimensions + 1) line) r.looked)
      go (inr l) = side-short i l

  even_odd : (k : ℕ) → (k ≡ 2 * (k / 2)) ⊎ (k ≡ 2 * (k / 2) + 1)
  even_odd k = go (dec_lt (k % 2) 1)
    where
      go : Dec (k % 2 < 1) → (k ≡ 2 * (k / 2)) ⊎ (k ≡ 2 * (k / 2) + 1)
      go (yes l) = inl (omega (arith, div-add-mod k 2))
      go (no l) = inr (omega (arith, div-add-mod k 2, mod-lt k {m = 2} (lit< tt)))

  part-short : (k : ℕ) → k < length (parts tab line) → length (part tab k line) ≤ 20
  part-short k h = go (even_odd k)
    where
      go : (k ≡ 2 * (k / 2)) ⊎ (k ≡ 2 * (k / 2) + 1) → length (part tab k line) ≤ 20
      go (inl e) = omega (arith, ap (λ (j : ℕ). length (part tab j line)) e, (pair-short (k / 2) (omega (arith, r.many))).0)
      go (inr e) = omega (arith, ap (λ (j : ℕ). length (part tab j line)) e, (pair-short (k / 2) (omega (arith, r.many))).1)

  line-short : length line ≤ 210
  line-short =
      omega (arith, ap length (joined_back tab line), joined-short tab 20 (parts tab line) part-short, r.many)

-- the limit decides nothing
pub limit-idle : (d : Description) (line : Bytes) → is_readable d line ≡ numbers_read d line
unfolding is_readable
limit-idle d line = go (numbers_read d line) refl
  where
    go : (t : Bool) → numbers_read d line ≡ t → (leb (length line) 255 && t) ≡ t
    go true e = rw (le-leb (length line) 255 (omega (arith, line-short d line (all_read d line e))))
    go false e = and-false (leb (length line) 255)
