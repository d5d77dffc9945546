-- What is the text of a number like? A number below ten has one digit, and any other has the digits of its tenth and then its last
-- digit; a fact of every number is shown along these two cases. So there is a digit, and k digits are enough for the numbers below
-- 10 ^ k. Assumes nothing.
use mathlib.Core.Path.{◌≡◌, refl, ◌∙◌}
use mathlib.Core.Logic.{◌⊎◌, inl, inr}
use mathlib.Core.List.{[], ◌∷◌, ◌++◌}
use Prim.Native.Nat.{ℕ, zero, suc, ◌+◌, ◌/◌, ◌%◌, ◌^◌, ◌≤◌, ◌<◌}
use native.Mathlib.Nat.{div-lt_self, div-eq_of_lt, le-div_iff_mul-le, div-lt_iff_lt-mul, pow-suc}
use native.Mathlib.Decide.{dec_lt}
use native.Mathlib.Omega.{arith}
use lib.Dec.{lit<}
use lib.ListN.{length, length-append}
use Rattle.decimal.specs.Decimal.{written, decimal, zero_byte}

under-or-not : (n k : ℕ) → (n < k) ⊎ (k ≤ n)
under-or-not n k = go (dec_lt n k)
  where
    go : Dec (n < k) → (n < k) ⊎ (k ≤ n)
    go (yes h) = inl h
    go (no h) = inr (omega arith)

-- a number from ten on has a smaller tenth, which is not zero
pub tenth-less : (n : ℕ) → 10 ≤ n → n / 10 < n
tenth-less n h = div-lt_self {n = n} {k = 10} (omega arith) (lit< tt)

pub tenth-some : (n : ℕ) → 10 ≤ n → 0 < n / 10
tenth-some n h = (le-div_iff_mul-le {k = 10} {x = 1} {y = n} (lit< tt)).1 (omega arith)

-- how many tenths are granted makes no difference
written-more : (k n t : ℕ) → 0 < t → written (suc k) n t ≡ written k t (t / 10) ++ ((zero_byte + n % 10) ∷ [])
unfolding written
written-more k n zero h = absurd (omega arith)
written-more k n (suc t) h = refl

written_same : (j k n t : ℕ) → t ≤ j → t ≤ k → written j n t ≡ written k n t
unfolding written
written_same zero zero n t p q = refl
written_same zero (suc k) n zero p q = refl
written_same zero (suc k) n (suc t) p q = absurd (omega arith)
written_same (suc j) zero n zero p q = refl
written_same (suc j) zero n (suc t) p q = absurd (omega arith)
written_same (suc j) (suc k) n zero p q = refl
written_same (suc j) (suc k) n (suc t) p q =
    let l = div-lt_self {n = suc t} {k = 10} (omega arith) (lit< tt) in
    rw (written_same j k (suc t) (suc t / 10) (omega arith) (omega arith))

written_none : (n t : ℕ) → written 0 n t ≡ (zero_byte + n) ∷ []
unfolding written
written_none n t = refl

-- the two cases
pub decimal-small : (n : ℕ) → n < 10 → decimal n ≡ (zero_byte + n) ∷ []
unfolding decimal
decimal-small n h = rw (div-eq_of_lt h) (written_same n 0 n 0 (omega arith) (omega arith) ∙ written_none n 0)

pub decimal-more : (n : ℕ) → 10 ≤ n → decimal n ≡ decimal (n / 10) ++ ((zero_byte + n % 10) ∷ [])
unfolding decimal
decimal-more n h =
    let l = tenth-less n h in
    let t = n / 10 in
    written_same n (suc t) n t (omega arith) (omega arith)
    ∙ written-more t n t (tenth-some n h)

-- so that what holds of a number where it holds of its tenth, holds of all
module _ (P : ℕ → Type 0) (one : (n : ℕ) → n < 10 → P n) (more : (n : ℕ) → 10 ≤ n → P (n / 10) → P n) where
  up_to : (k n : ℕ) → n < k → P n
  up_to zero n h = absurd (omega arith)
  up_to (suc k) n h =
      elim (under-or-not n 10) [
        | inl l ↦ one n l
        | inr l ↦ more n l (let t = tenth-less n l in up_to k (n / 10) (omega arith))
      ]

  pub by-tenths : (n : ℕ) → P n
  by-tenths n = up_to (suc n) n (omega arith)

-- how many digits
pub length-small : (n : ℕ) → n < 10 → length (decimal n) ≡ 1
length-small n h = rw (decimal-small n h)

pub length_more : (n : ℕ) → 10 ≤ n → length (decimal n) ≡ length (decimal (n / 10)) + 1
length_more n h = rw (decimal-more n h, length-append)

pub some-digit : (n : ℕ) → 0 < length (decimal n)
some-digit = by-tenths (λ n. 0 < length (decimal n)) (λ n h. omega (arith, length-small n h)) (λ n h i. omega (arith, length_more n h))

pub one-digit : (n : ℕ) → length (decimal n) ≡ 1 → n < 10
one-digit n h = elim (under-or-not n 10) [ inl l ↦ l | inr l ↦ absurd (omega (arith, length_more n l, some-digit (n / 10))) ]

pub more-digits : (n : ℕ) → 1 < length (decimal n) → 10 ≤ n
more-digits n h = elim (under-or-not n 10) [ inl l ↦ absurd (omega (arith, length-small n l)) | inr l ↦ l ]

pub digits-enough : (k n : ℕ) → n < 10 ^ suc k → length (decimal n) ≤ suc k
digits-enough zero n h = omega (arith, length-small n h)
digits-enough (suc k) n h =
    elim (under-or-not n 10) [
      | inl l ↦ omega (arith, length-small n l)
      | inr l ↦
          let t : n / 10 < 10 ^ suc k = (div-lt_iff_lt-mul {k = 10} {x = n} {y = 10 ^ suc k} (lit< tt)).1 (rw (pow-suc 10 (suc k)) at h) in
          omega (arith, length_more n l, digits-enough k (n / 10) t)
    ]

pub twenty-digits : (n : ℕ) → n < 2 ^ 64 → length (decimal n) ≤ 20
twenty-digits n h = digits-enough 19 n (omega arith)
