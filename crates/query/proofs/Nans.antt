-- How is a NaN of two floats told? Of float64 by their upper four bytes, nearly always: where these, without the sign, are below an infinity's, it is
-- no NaN, whatever the lower four are. Assumes nothing.
use Prim.Native.Nat.{ℕ, ◌+◌, ◌*◌, ◌/◌, ◌%◌, ◌^◌, ◌<◌}
use native.Mathlib.Nat.{div-add-mod'}
use native.Mathlib.Omega.{arith}
use mathlib.Core.Path.{◌≡◌, refl, sym, ap, ◌∙◌}
use mathlib.Core.Bool.{Bool, true, false, ◌||◌, cond}
use mathlib.Core.List.{List}
use lib.Dec.{leb, ltb}
use lib.Ieee.{binary64, nan_bits, top, ones, hid}
use lib.Ieee.Bits.{nan_bits_above}
use lib.ListN.{length, get_or}
use mir.Syntax.{w8}
use mir.Val.{Fits}
use borrow.Author.Tests.{ltb-true, le-ltb}
use Rattle.order.specs.Little.{little, first_of_two, second_of_two}
use Rattle.order.proofs.Little.{little-lt, little-split}

-- ---- the upper bytes
abbrev pub small : ℕ → Bool
small u = ltb (2 * (u % 0x8000_0000)) 0xffe0_0000

number : (l u : ℕ) → l < 256 ^ 4 → small u ≡ true → nan_bits binary64 (l + 256 ^ 4 * u) ≡ false
number l u low h =
    let r = u % 0x8000_0000 in
    let q = u / 0x8000_0000 in
    let under : 2 * r < 0xffe0_0000 = ltb-true (2 * r) 0xffe0_0000 h in
    let parts : q * 0x8000_0000 + r ≡ u = div-add-mod' u 0x8000_0000 in
    let is : (l + 256 ^ 4 * u) % top binary64 ≡ l + 256 ^ 4 * r = omega (arith, parts, under, low) in
    nan_bits_above binary64 (l + 256 ^ 4 * u)
    ∙ ap (ltb (ones binary64 * hid binary64)) is
    ∙ le-ltb (ones binary64 * hid binary64) (l + 256 ^ 4 * r) (omega (arith, under, low))

module _ (s : List ℕ) (byte : (i : ℕ) → Fits w8 (get_or s i 0)) where
  pub upper-tells : (at : ℕ) → small (little s (at + 4) 4) ≡ true → nan_bits binary64 (little s at 8) ≡ false
  upper-tells at h = ap (nan_bits binary64) (little-split s at 4 4) ∙ number (little s at 4) (little s (at + 4) 4) (little-lt s byte at 4) h

  there-or-not : (b : Bool) (x : ℕ) → nan_bits binary64 x ≡ false → nan_bits binary64 (cond b x 0) ≡ false
  unfolding nan_bits
  there-or-not true x h = h
  there-or-not false x h = refl

  pub uppers-tell : small (little s 4 4) ≡ true → small (little s 12 4) ≡ true → false ≡ (nan_bits binary64 (first_of_two s 0 8) || nan_bits binary64 (second_of_two s 0 8))
  unfolding first_of_two second_of_two
  uppers-tell low high =
      rw (there-or-not (leb 16 (length s)) (little s 0 8) (upper-tells 0 low), there-or-not (leb 16 (length s)) (little s 8 8) (upper-tells 8 high)) refl

-- ---- one of two is told, the first and then the second
pub told-first : {t a : Bool} (b : Bool) → t ≡ a → t ≡ true → t ≡ (a || b)
told-first b e h = h ∙ ap (λ (x : Bool). x || b) (sym h ∙ e)

pub told-second : {t u a b : Bool} → t ≡ a → t ≡ false → u ≡ b → u ≡ (a || b)
told-second {b = b} e h f = f ∙ ap (λ (x : Bool). x || b) (sym h ∙ e)
