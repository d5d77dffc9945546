-- In which order are two signed numbers? In two's complement at any width, the numbers' order is that of their patterns'
-- keys. Assumes nothing.
use mathlib.Core.Path.{◌≡◌, sym, ap, ◌∙◌}
use mathlib.Core.Logic.{◌⊎◌, inl, inr}
use Prim.Native.Nat.{ℕ, suc, ◌+◌, ◌-◌, ◌*◌, ◌%◌, ◌^◌, ◌≤◌, ◌<◌}
use native.Mathlib.Nat.{mod-eq_of_lt, mod-eq-sub-mod}
use native.Mathlib.Omega.{arith}
use lib.Dec.{T, leb, leb→le, le→leb, not_T}
use lib.IntN.{ℤ, negsuc}
use lib.Signed.{le_z}
use lib.Ieee.Bits.{is_true, is_false}
use mir.Syntax.{Width}
use mir.Val.{bits, hbits, Fits, SFits, to_z, of_z}
use mir.ValLaws.{pow-bits, to_z_pos, to_z-neg, of_z_fits}
use Rattle.order.specs.Key.{signed_key, signed_at_most}
use Rattle.order.proofs.Tests.{same_test, under-or-not}

-- ---- the two halves of the patterns
abbrev half : Width → ℕ
half w = 2 ^ hbits w

pub lower : (w : Width) (n : ℕ) → n < half w → signed_key w n ≡ n + half w
unfolding signed_key
lower w n l = mod-eq_of_lt (fit (half w) (2 ^ bits w) (pow-bits w) l)
  where
    fit : (h N : ℕ) → N ≡ h * 2 → n < h → n + h < N
    fit h N e k = omega arith

pub upper : (w : Width) (n : ℕ) → half w ≤ n → n < 2 ^ bits w → signed_key w n ≡ n - half w
unfolding signed_key
upper w n l k =
    mod-eq-sub-mod (reach (half w) (2 ^ bits w) (pow-bits w) l)
    ∙ ap (λ (x : ℕ). x % 2 ^ bits w) (less (half w) (2 ^ bits w) (pow-bits w) l)
    ∙ mod-eq_of_lt (fit (half w) (2 ^ bits w) k)
  where
    reach : (h N : ℕ) → N ≡ h * 2 → h ≤ n → N ≤ n + h
    reach h N e i = omega arith

    less : (h N : ℕ) → N ≡ h * 2 → h ≤ n → n + h - N ≡ n - h
    less h N e i = omega arith

    fit : (h N : ℕ) → n < N → n - h < N
    fit h N i = omega arith

to_z-upper : (w : Width) (n : ℕ) → half w ≤ n → n < 2 ^ bits w → to_z w n ≡ negsuc (2 ^ bits w - suc n)
to_z-upper w n l k =
    ap (to_z w) (is (2 ^ bits w) k) ∙ to_z-neg w (2 ^ bits w - suc n) (fit (half w) (2 ^ bits w) (pow-bits w) l k)
  where
    is : (N : ℕ) → n < N → n ≡ N - suc (N - suc n)
    is N h = omega arith

    fit : (h N : ℕ) → N ≡ h * 2 → h ≤ n → n < N → N - suc n < h
    fit h N i j m = omega arith

-- ---- the order
lower-upper : (a b h N : ℕ) → N ≡ h * 2 → b < N → h ≤ b → T (leb (a + h) (b - h)) → ⊥
lower-upper a b h N e l k t = omega (arith, leb→le)

upper-lower : (a b h N : ℕ) → N ≡ h * 2 → a < N → a - h ≤ b + h
upper-lower a b h N e l = omega arith

both-upper : (a b h N : ℕ) → h ≤ a → h ≤ b → a < N → b < N → leb (N - suc b) (N - suc a) ≡ leb (a - h) (b - h)
both-upper a b h N x y l m =
    same_test (leb (N - suc b) (N - suc a)) (leb (a - h) (b - h)) (λ t. omega (arith, leb→le, le→leb)) (λ t. omega (arith, leb→le, le→leb))

pub le_z-by-key : (w : Width) (a b : ℕ) → Fits w a → Fits w b → le_z (to_z w a) (to_z w b) ≡ leb (signed_key w a) (signed_key w b)
le_z-by-key w a b f g = go (under-or-not a (half w)) (under-or-not b (half w))
  where
    go : (a < half w) ⊎ (half w ≤ a) → (b < half w) ⊎ (half w ≤ b) → le_z (to_z w a) (to_z w b) ≡ leb (signed_key w a) (signed_key w b)
    go (inl x) (inl y) =
        (λ i. le_z (to_z_pos w a x i) (to_z_pos w b y i))
        ∙ same_test (leb a b) (leb (a + half w) (b + half w)) (λ t. omega (arith, leb→le, le→leb)) (λ t. omega (arith, leb→le, le→leb))
        ∙ (λ i. leb (sym (lower w a x) i) (sym (lower w b y) i))
    go (inl x) (inr y) =
        (λ i. le_z (to_z_pos w a x i) (to_z-upper w b y g.fits i))
        ∙ sym (is_false (leb (a + half w) (b - half w)) (not_T (leb (a + half w) (b - half w)) (lower-upper a b (half w) (2 ^ bits w) (pow-bits w) g.fits y)))
        ∙ (λ i. leb (sym (lower w a x) i) (sym (upper w b y g.fits) i))
    go (inr x) (inl y) =
        (λ i. le_z (to_z-upper w a x f.fits i) (to_z_pos w b y i))
        ∙ sym (is_true (leb (a - half w) (b + half w)) (le→leb (a - half w) (b + half w) (upper-lower a b (half w) (2 ^ bits w) (pow-bits w) f.fits)))
        ∙ (λ i. leb (sym (upper w a x f.fits) i) (sym (lower w b y) i))
    go (inr x) (inr y) =
        (λ i. le_z (to_z-upper w a x f.fits i) (to_z-upper w b y g.fits i))
        ∙ both-upper a b (half w) (2 ^ bits w) x y f.fits g.fits
        ∙ (λ i. leb (sym (upper w a x f.fits) i) (sym (upper w b y g.fits) i))

-- of two numbers, by the bits that stand for them
pub le_z-by-bits : (w : Width) (a b : ℤ) → SFits w a → SFits w b → le_z (to_z w (of_z w a)) (to_z w (of_z w b)) ≡ signed_at_most w (of_z w a) (of_z w b)
unfolding signed_at_most
le_z-by-bits w a b f g = le_z-by-key w (of_z w a) (of_z w b) (of_z_fits w a f) (of_z_fits w b g)
