-- What is a finite float's pattern worth? In units of the format's smallest value, a strictly growing number of its
-- magnitude, so that magnitudes compare as what they are worth does. Assumes nothing.
use mathlib.Core.Path.{◌≡◌, sym, ap, ◌∙◌, subst}
use mathlib.Core.Logic.{inl, inr}
use Prim.Native.Nat.{ℕ, zero, suc, ◌+◌, ◌*◌, ◌/◌, ◌%◌, ◌^◌, ◌≤◌, ◌<◌}
use native.Mathlib.Nat.{le_trans, le_of_eq, le_of_suc-le-suc, lt_of_lt_of_le, lt_of_not-le, not-le_of_lt, eq-or-lt_of_le, le_of_lt, mul-le-mul_right, mul-le-mul_left, mul-lt-mul_of_pos_right, le-add_right, div-add-mod', mod-lt, zero-div, zero-mod, pow-succ'}
use native.Mathlib.Omega.{arith}
use lib.Dec.{leb, leb→le, le→leb}
use lib.Pow.{pow_pos, pow_mono, shr_mono}
use Rattle.order.proofs.Tests.{same_test}

-- by the exponent's field x and the digits t, which are below h: a field of 0 has no leading digit, and counts as a
-- field of 1
abbrev pub worth : ℕ → ℕ → ℕ → ℕ
worth h zero t = t * 2 ^ 0
worth h (suc x) t = (h + t) * 2 ^ x

under_next : (h x t : ℕ) → t < h → worth h x t < h * 2 ^ x
under_next h zero t H = mul-lt-mul_of_pos_right H (pow_pos 0)
under_next h (suc x) t H = rw pow-succ' (omega (arith, mul-lt-mul_of_pos_right H (pow_pos x)))

by_field : (h x y t u : ℕ) → x < y → t < h → worth h x t < worth h y u
by_field h x zero t u l H = absurd (none l)
  where
    none : x < 0 → ⊥
    none k = omega arith
by_field h x (suc y) t u l H =
    lt_of_lt_of_le (under_next h x t H)
    (le_trans (mul-le-mul_left h (pow_mono (le_of_suc-le-suc l))) (mul-le-mul_right (2 ^ y) (le-add_right h u)))

by_digits : (h x t u : ℕ) → t < u → worth h x t < worth h x u
by_digits h zero t u l = mul-lt-mul_of_pos_right l (pow_pos 0)
by_digits h (suc x) t u l = mul-lt-mul_of_pos_right (more l) (pow_pos x)
  where
    more : t < u → h + t < h + u
    more k = omega arith

-- by the magnitude r, whose lowest k bits are the digits
abbrev pub size : ℕ → ℕ → ℕ
size k r = worth (2 ^ k) (r / 2 ^ k) (r % 2 ^ k)

size-grows : (k a b : ℕ) → a < b → size k a < size k b
size-grows k a b l = elim (eq-or-lt_of_le (shr_mono k (le_of_lt l))) [
  | inl e ↦
      subst (λ (q : ℕ). worth (2 ^ k) q (a % 2 ^ k) < size k b) (sym e)
      (by_digits (2 ^ k) (b / 2 ^ k) (a % 2 ^ k) (b % 2 ^ k)
      (omega (arith, div-add-mod' a (2 ^ k), div-add-mod' b (2 ^ k), ap (λ (q : ℕ). q * 2 ^ k) e)))
  | inr m ↦ by_field (2 ^ k) (a / 2 ^ k) (b / 2 ^ k) (a % 2 ^ k) (b % 2 ^ k) m (mod-lt a (pow_pos k))
]

pub size-leb : (k a b : ℕ) → leb (size k a) (size k b) ≡ leb a b
size-leb k a b =
    same_test (leb (size k a) (size k b)) (leb a b)
    (λ t. le→leb a b (le_of_suc-le-suc (lt_of_not-le (λ (g : suc b ≤ a). not-le_of_lt (size-grows k b a g) (leb→le (size k a) (size k b) t)))))
    (λ t. elim (eq-or-lt_of_le (leb→le a b t)) [
      | inl e ↦ le→leb (size k a) (size k b) (le_of_eq (ap (size k) e))
      | inr l ↦ le→leb (size k a) (size k b) (le_of_lt (size-grows k a b l))
    ])

size-zero : (k : ℕ) → size k 0 ≡ 0
size-zero k =
    ap (λ (q : ℕ). worth (2 ^ k) q (0 % 2 ^ k)) (zero-div (2 ^ k)) ∙ ap (λ (t : ℕ). t * 2 ^ 0) (zero-mod (2 ^ k))

pub size-leb-zero : (k a : ℕ) → leb (size k a) 0 ≡ leb a 0
size-leb-zero k a = ap (λ (z : ℕ). leb (size k a) z) (sym (size-zero k)) ∙ size-leb k a 0
