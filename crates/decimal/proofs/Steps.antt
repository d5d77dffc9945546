-- How is a text read a byte at a time? What is left of it is read after the value so far, and a value only grows, so that a byte
-- that is no digit, or a value past the most, decides at once. Assumes nothing.
use mathlib.Core.Path.{◌≡◌, refl, sym, ap}
use mathlib.Core.Bool.{Bool, true, false, cond, ◌&&◌}
use mathlib.Core.List.{List, [], ◌∷◌}
use Prim.Native.Nat.{ℕ, suc, ◌+◌, ◌-◌, ◌*◌, ◌≤◌, ◌<◌}
use native.Mathlib.Omega.{arith}
use native.Mathlib.Numerals.{add-one}
use lib.Dec.{leb}
use lib.ListN.{length, get_or, drop, drop_of_length-le}
use lib.Seq.{drop-cons}
use borrow.Author.Tests.{le-leb, lt-leb, leb-true, leb-false}
use Rattle.std.specs.Char.{is_ascii_digit}
use Rattle.std.specs.Prelude.{Option, Some, None, unwrap_or}
use Rattle.std.proofs.lemmas.Option.{none-some, same_Some}
use Rattle.decimal.specs.Decimal.{value_from, value_of, is_digit, all_digits, starts_well, is_decimal, zero_byte}
use Rattle.decimal.specs.Read.{if_fits, read_number, read_next}

-- what is left, after bytes that stand for v
unfoldable pub read_from : ℕ → ℕ → List ℕ → Option ℕ
read_from most v t = if_fits most (all_digits t) (value_from v t)

and-false : (a : Bool) → (a && false) ≡ false
and-false true = refl
and-false false = refl

-- ---- from the start
pub read-start : (most : ℕ) (t : List ℕ) → starts_well t ≡ true → read_number most t ≡ read_from most 0 t
unfolding read_number read_from is_decimal
read-start most t h = rw h

pub read-wrong-start : (most : ℕ) (t : List ℕ) → starts_well t ≡ false → None ≡ read_number most t
unfolding read_number is_decimal
read-wrong-start most t h = rw h

-- ---- a value only grows
value_grows : (v : ℕ) (t : List ℕ) → v ≤ value_from v t
unfolding value_from
value_grows v [] = omega arith
value_grows v (b ∷ t) = omega (arith, value_grows (10 * v + (b - zero_byte)) t)

-- ---- one byte
module _ (most v b : ℕ) (t : List ℕ) where
  abbrev w : ℕ
  w = 10 * v + (b - zero_byte)

  go_on :
      (d l : Bool) {n : ℕ} → cond (d && l) (Some w) None ≡ Some n
      → if_fits most (d && all_digits t) (value_from w t) ≡ if_fits most (all_digits t) (value_from n t)
  go_on true true h = ap (λ k. if_fits most (all_digits t) (value_from k t)) (same_Some _ _ h)
  go_on true false h = absurd (none-some _ h)
  go_on false l h = absurd (none-some _ h)

  read-on : {n : ℕ} → read_next most v b ≡ Some n → read_from most v (b ∷ t) ≡ read_from most n t
  unfolding read_next read_from value_from all_digits
  read-on h = go_on (is_digit b) (leb w most) h

  stop : (d l : Bool) → leb w most ≡ l → cond (d && l) (Some w) None ≡ None → None ≡ if_fits most (d && all_digits t) (value_from w t)
  stop false l e h = refl
  stop true true e h = absurd (none-some _ (sym h))
  stop true false e h =
      let past : most < value_from w t = omega (arith, leb-false w most e, value_grows w t) in
      rw (lt-leb (value_from w t) most past, and-false)

  read-stop : read_next most v b ≡ None → None ≡ read_from most v (b ∷ t)
  unfolding read_next read_from value_from all_digits
  read-stop h = stop (is_digit b) (leb w most) refl h

-- the byte at place i of a text
module _ (most v i : ℕ) (t : List ℕ) (l : i < length t) where
  pub read-on-at : {n : ℕ} → read_next most v (get_or t i 0) ≡ Some n → read_from most v (drop i t) ≡ read_from most n (drop (i + 1) t)
  read-on-at h = rw (add-one i, drop-cons t i 0 l) (read-on most v (get_or t i 0) (drop (suc i) t) h)

  pub read-stop-at : read_next most v (get_or t i 0) ≡ None → None ≡ read_from most v (drop i t)
  read-stop-at h = rw (drop-cons t i 0 l) (read-stop most v (get_or t i 0) (drop (suc i) t) h)

-- a fit is at most the most
if_fits-most : (most : ℕ) (well : Bool) (n m : ℕ) → if_fits most well n ≡ Some m → m ≤ most
if_fits-most most well n m = go (leb n most) (leb-true n most) well
  where
    go : (b : Bool) → (b ≡ true → n ≤ most) → (well : Bool) → cond (well && b) (Some n) None ≡ Some m → m ≤ most
    go true h true e = rw (← same_Some _ _ e) (h refl)
    go false h true e = absurd (none-some _ e)
    go b h false e = absurd (none-some _ e)

pub read-most : (most : ℕ) (t : List ℕ) {n : ℕ} → read_number most t ≡ Some n → n ≤ most
unfolding read_number
read-most most t e = if_fits-most most (is_decimal t) (value_of t) _ e

pub value-most : (most : ℕ) (t : List ℕ) → unwrap_or (read_number most t) 0 ≤ most
value-most most t = go (read_number most t) refl
  where
    go : (r : Option ℕ) → read_number most t ≡ r → unwrap_or r 0 ≤ most
    go None e = omega arith
    go (Some n) e = read-most most t e

pub next-most : (most v b : ℕ) {n : ℕ} → read_next most v b ≡ Some n → n ≤ most
unfolding read_next
next-most most v b e = if_fits-most most (is_digit b) (10 * v + (b - zero_byte)) _ e

-- ---- the end
pub read_all : (most v i : ℕ) (t : List ℕ) → length t ≤ i → v ≤ most → read_from most v (drop i t) ≡ Some v
unfolding read_from value_from all_digits
read_all most v i t l h = rw (drop_of_length-le t l, le-leb v most h)

-- ---- a digit, and the value with it
module _ (most v b : ℕ) where
  pub next_other : is_ascii_digit b ≡ false → None ≡ read_next most v b
  unfolding read_next
  next_other h = rw h

  pub next_past : most < 10 * v + (b - zero_byte) → None ≡ read_next most v b
  unfolding read_next
  next_past h = rw (lt-leb (10 * v + (b - 48)) most h, and-false)

  pub next_fits : is_ascii_digit b ≡ true → 10 * v + (b - zero_byte) ≤ most → Some (10 * v + (b - zero_byte)) ≡ read_next most v b
  unfolding read_next
  next_fits d h = rw (d, le-leb (10 * v + (b - 48)) most h)
