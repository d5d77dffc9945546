-- Which signed numbers are read, and do they fit? A reading is nothing, or a nonzero magnitude after a minus and at most the half,
-- or a magnitude below the half; so the number fits two's complement of any width. Assumes nothing.
use mathlib.Core.Path.{◌≡◌, refl, sym, ◌∙◌}
use mathlib.Core.Bool.{Bool, true, false, cond, ◌&&◌, true≢false}
use mathlib.Core.List.{List, [], ◌∷◌}
use Prim.Native.Nat.{ℕ, zero, suc, ◌-◌, ◌^◌, ◌≤◌, ◌<◌}
use native.Mathlib.Omega.{arith}
use lib.Dec.{leb, eqb}
use lib.IntN.{ℤ, pos, negsuc}
use lib.ListN.{get_or, take, drop}
use lib.Pointwise.{pointwise}
use lib.Pow.{pow_pos}
use lib.Signed.{mag}
use mir.Syntax.{Width, w32, w64}
use mir.Val.{hbits, SFits}
use borrow.Author.Tests.{leb-true, eqb-true, ne_eqb}
use Rattle.std.specs.Prelude.{Option, Some, None}
use Rattle.std.proofs.lemmas.Option.{none-some, same_Some}
use Rattle.decimal.specs.Decimal.{decimal, value_of, is_decimal}
use Rattle.decimal.specs.Read.{read_number, minus_byte, starts_with_minus, below_zero, from_zero, read_signed, signed_text}
use Rattle.decimal.proofs.Back.{first-least, read_back, read-exact}

-- ---- the ways a reading can come out
pub data Fit (most : ℕ) : Option ℕ → Type 0 where
  fit : (n : ℕ) → n ≤ most → Fit most (Some n)
  none : Fit most None

pub fit_of : (most : ℕ) (t : List ℕ) → Fit most (read_number most t)
unfolding read_number
fit_of most t = go (is_decimal t) (leb (value_of t) most) (leb-true (value_of t) most)
  where
    go : (a b : Bool) → (b ≡ true → value_of t ≤ most) → Fit most (cond (a && b) (Some (value_of t)) None)
    go true true h = fit (value_of t) (h refl)
    go true false h = none
    go false b h = none

pub data Way (half : ℕ) : Option ℤ → Type 0 where
  number : (z : ℤ) → mag z < half → Way half (Some z)
  none : Way half None

pub way_of : (half : ℕ) (t : List ℕ) → 0 < half → Way half (read_signed half t)
unfolding read_signed
way_of half t h = go (starts_with_minus t) (fit_of half (drop 1 t)) (fit_of (half - 1) t)
  where
    go : {p q : Option ℕ} (s : Bool) → Fit half p → Fit (half - 1) q → Way half (cond s (below_zero p) (from_zero q))
    go true (fit zero l) k = none
    go true (fit (suc m) l) k = number (negsuc m) l
    go true none k = none
    go false k (fit n l) = number (pos n) (omega arith)
    go false k none = none

pub signed-most : (half : ℕ) (t : List ℕ) (z : ℤ) → 0 < half → read_signed half t ≡ Some z → mag z < half
signed-most half t z h e = go (way_of half t h) e
  where
    go : {r : Option ℤ} → Way half r → r ≡ Some z → mag z < half
    go (number y l) e = rw (← same_Some _ _ e) l
    go none e = absurd (none-some _ e)

-- at a width, whose half is a power of two
pub signed-fits : (w : Width) (t : List ℕ) (z : ℤ) → read_signed (2 ^ hbits w) t ≡ Some z → SFits w z
signed-fits w t z e = record { sfits = signed-most (2 ^ hbits w) t z (pow_pos (hbits w)) e }

pub wider : (z : ℤ) → SFits w32 z → SFits w64 z
wider z f = record { sfits = omega (arith, f.sfits) }

-- ---- the code's two ways: after a minus, and without one
abbrev pub begins : List ℕ → Bool
begins t = pointwise eqb (take 1 t) (minus_byte ∷ [])

begins-is : (t : List ℕ) → begins t ≡ starts_with_minus t
unfolding starts_with_minus
begins-is [] = refl
begins-is (b ∷ t) = and-true (eqb b 45)
  where
    and-true : (a : Bool) → (a && true) ≡ a
    and-true true = refl
    and-true false = refl

module _ (half : ℕ) (t : List ℕ) where
  pub minus-is :
      {digits : List ℕ} {r : Option ℕ} → begins t ≡ true → digits ≡ drop 1 t → r ≡ read_number half digits
      → below_zero r ≡ read_signed half t
  unfolding read_signed
  minus-is b d e = rw (sym (begins-is t) ∙ b, ← d, e)

  pub plain_is : {r : Option ℕ} → begins t ≡ false → r ≡ read_number (half - 1) t → from_zero r ≡ read_signed half t
  unfolding read_signed
  plain_is b e = rw (sym (begins-is t) ∙ b, e)

-- ---- a text is accepted exactly where it is what its number is written as
minus-first : (t : List ℕ) → starts_with_minus t ≡ true → minus_byte ∷ drop 1 t ≡ t
unfolding starts_with_minus
minus-first [] h = absurd (true≢false (sym h))
minus-first (b ∷ t) h = rw (eqb-true b 45 h)

pub signed-exact : (half : ℕ) (t : List ℕ) (z : ℤ) → read_signed half t ≡ Some z → signed_text z ≡ t
unfolding read_signed
signed-exact half t z =
    go (starts_with_minus t) (minus-first t)
    (read_number half (drop 1 t)) (read-exact half (drop 1 t))
    (read_number (half - 1) t) (read-exact (half - 1) t)
  where
    go : (s : Bool) → (s ≡ true → minus_byte ∷ drop 1 t ≡ t)
        → (p : Option ℕ) → ((n : ℕ) → p ≡ Some n → decimal n ≡ drop 1 t)
        → (q : Option ℕ) → ((n : ℕ) → q ≡ Some n → decimal n ≡ t)
        → cond s (below_zero p) (from_zero q) ≡ Some z → signed_text z ≡ t
    go true m (Some zero) e q f h = absurd (none-some _ h)
    go true m (Some (suc n)) e q f h = rw (← same_Some _ _ h, e (suc n) refl) (m refl)
    go true m None e q f h = absurd (none-some _ h)
    go false m p e (Some n) f h = rw (← same_Some _ _ h) (f n refl)
    go false m p e None f h = absurd (none-some _ h)

pub signed_back : (half : ℕ) (z : ℤ) → mag z < half → read_signed half (signed_text z) ≡ Some z
unfolding read_signed starts_with_minus
signed_back half (negsuc m) l = rw (read_back half (suc m) l)
signed_back half (pos m) l =
    let digit = ne_eqb (get_or (decimal m) 0 0) 45 (λ e. omega (arith, first-least m)) in
    rw (digit, read_back (half - 1) m (omega arith))
