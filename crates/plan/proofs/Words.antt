-- Eight bytes of a bitmap as one number: its digits are the marks of 64 tiles, and the zeros below its lowest digit
-- that is set are tiles without a mark.
-- Assumes nothing.
use Rattle.std.proofs.Common.{◌≡◌, ℕ, zero, suc, ◌+◌, ◌-◌, ◌*◌, ◌/◌, ◌%◌, ◌^◌, ◌<◌, ◌≤◌, true, false, ◌&&◌, ltb, List, get_or, sym, refl, ap, ◌∙◌, lt_of_lt_of_le, add-one, one-add, arith, pow_mono, shr-shr, shr_lt, w8, Fits, ltb-true, le-ltb, lt-ltb}
use native.Mathlib.Nat.{div-eq_of_lt, zero-div}
use native.Mathlib.Decide.{dec_lt}
use lib.Count.{count_trailing_zeros, under}
use lib.Pow.{shr_le, field, mod-mod-pow}
use Rattle.description.proofs.Tests.{both}
use Rattle.order.specs.Little.{little}
use Rattle.order.proofs.Little.{little-lt}
use Rattle.plan.specs.Code.Marks.{digit, marked, Unmarked, Skipped}

-- ---- a digit of eight bytes is a digit of one of them
low_digit : (x k : ℕ) → k < 8 → x % 256 / 2 ^ k % 2 ≡ x / 2 ^ k % 2
low_digit x k h =
    let z : 7 - k + (1 + k) ≡ 8 = omega arith in
    sym (field (x % 256) 1 k)
    ∙ ap (λ (y : ℕ). y / 2 ^ k) (ap (λ (w : ℕ). x % 2 ^ w % 2 ^ (1 + k)) (sym z) ∙ mod-mod-pow x (7 - k) (1 + k))
    ∙ field x 1 k

high_digit : (x k : ℕ) → 8 ≤ k → x / 2 ^ k ≡ x / 256 / 2 ^ (k - 8)
high_digit x k h =
    let z : 8 + (k - 8) ≡ k = omega arith in
    sym (shr-shr x 8 (k - 8) ∙ ap (λ (w : ℕ). x / 2 ^ w) z)

module _ (s : List ℕ) (byte : (i : ℕ) → Fits w8 (get_or s i 0)) where
  little-digit : (at m k : ℕ) → k < 8 * m → little s at m / 2 ^ k % 2 ≡ get_or s (at + k / 8) 0 / 2 ^ (k % 8) % 2
  unfolding little
  little-digit at zero k h = absurd (omega arith)
  little-digit at (suc m) k h = go (dec_lt k 8) (λ l. little-digit (at + 1) m (k - 8) (omega arith))
    where
      x : ℕ
      x = get_or s at 0 + 256 * little s (at + 1) m

      go : Dec (k < 8)
          → (8 ≤ k → little s (at + 1) m / 2 ^ (k - 8) % 2 ≡ get_or s (at + 1 + (k - 8) / 8) 0 / 2 ^ ((k - 8) % 8) % 2)
          → x / 2 ^ k % 2 ≡ get_or s (at + k / 8) 0 / 2 ^ (k % 8) % 2
      go (yes l) ih =
          let first : x % 256 ≡ get_or s at 0 = omega (arith, (byte at).fits) in
          let place : at + k / 8 ≡ at = omega arith in
          let bit : k % 8 ≡ k = omega arith in
          sym (low_digit x k l) ∙ rw (first, place, bit)
      go (no l) ih =
          let rest : x / 256 ≡ little s (at + 1) m = omega (arith, (byte at).fits) in
          let place : at + 1 + (k - 8) / 8 ≡ at + k / 8 = omega arith in
          let bit : (k - 8) % 8 ≡ k % 8 = omega arith in
          rw (high_digit x k (omega arith), rest) (ih (omega arith) ∙ rw (place, bit))

  pub word-says : (at k : ℕ) → digit (little s at 8) k ≡ (ltb (8 * at + k) (8 * (at + 8)) && marked s (8 * at + k))
  unfolding marked
  word-says at k = go (dec_lt k 64)
    where
      go : Dec (k < 64) → digit (little s at 8) k
          ≡ (ltb (8 * at + k) (8 * (at + 8)) && digit (get_or s ((8 * at + k) / 8) 0) ((8 * at + k) % 8))
      go (yes h) =
          let place : (8 * at + k) / 8 ≡ at + k / 8 = omega arith in
          let bit : (8 * at + k) % 8 ≡ k % 8 = omega arith in
          rw (lt-ltb (8 * at + k) (8 * (at + 8)) (omega arith), place, bit, little-digit at 8 k (omega arith))
      go (no h) =
          let none : little s at 8 / 2 ^ k ≡ 0
          = div-eq_of_lt (lt_of_lt_of_le (little-lt s byte at 8) (pow_mono {i = 64} {j = k} (omega arith))) in
          rw (le-ltb (8 * at + k) (8 * (at + 8)) (omega arith), none)

-- ---- the zeros below the lowest digit that is set
halved : (q j : ℕ) → q / 2 / 2 ^ j ≡ q / 2 ^ suc j
halved q j = shr-shr q 1 j ∙ ap (λ (w : ℕ). q / 2 ^ w) (one-add j)

pub zeros-below : (d q j : ℕ) → j < count_trailing_zeros d q → q / 2 ^ j % 2 ≡ 0
unfolding count_trailing_zeros
zeros-below zero q j h = absurd (omega arith)
zeros-below (suc d) q j h = go (q % 2) refl j h (λ k l. zeros-below d (q / 2) k l)
  where
    go : (r : ℕ) → q % 2 ≡ r → (j : ℕ) → j < under r (count_trailing_zeros d (q / 2))
        → ((k : ℕ) → k < count_trailing_zeros d (q / 2) → q / 2 / 2 ^ k % 2 ≡ 0) → q / 2 ^ j % 2 ≡ 0
    go zero e zero h ih = omega (arith, e)
    go zero e (suc j) h ih = rw (← halved q j) (ih j (omega arith))
    go (suc r) e j h ih = absurd (omega arith)

pub lowest_set : (d q : ℕ) → 0 < q → q < 2 ^ d → (count_trailing_zeros d q < d) × (q / 2 ^ count_trailing_zeros d q % 2 ≡ 1)
unfolding count_trailing_zeros
lowest_set zero q some small = absurd (omega arith)
lowest_set (suc d) q some small = go (q % 2) refl (λ e. lowest_set d (q / 2) (omega arith) half)
  where
    half : q / 2 < 2 ^ d
    half = shr_lt d 1 (rw (add-one d) small)

    go : (r : ℕ) → q % 2 ≡ r
        → (q % 2 ≡ 0 → (count_trailing_zeros d (q / 2) < d) × (q / 2 / 2 ^ count_trailing_zeros d (q / 2) % 2 ≡ 1))
        → (under r (count_trailing_zeros d (q / 2)) < suc d) × (q / 2 ^ under r (count_trailing_zeros d (q / 2)) % 2 ≡ 1)
    go zero e ih =
        let t = ih e in
        (omega (arith, t.0), rw (← halved q (count_trailing_zeros d (q / 2))) t.1)
    go (suc r) e ih = (omega arith, omega (arith, e))

-- ---- the marks from tile i on, up to the end of the eight bytes
pub record Word (marks : List ℕ) (i end word : ℕ) : Type 0 where
  pub small : word < 2 ^ 64
  pub says : (k : ℕ) → digit word k ≡ (ltb (i + k) end && marked marks (i + k))

module _ {marks : List ℕ} {i end word : ℕ} (w : Word marks i end word) where
  -- a digit that isn't set
  unmarked : (k : ℕ) → i + k < end → word / 2 ^ k % 2 ≡ 0 → marked marks (i + k) ≡ false
  unmarked k l e =
      let t : (ltb (i + k) end && marked marks (i + k)) ≡ false = sym (w.says k) ∙ rw e in
      rw (lt-ltb (i + k) end l) at t

  pub none_left : word ≡ 0 → (j : ℕ) → i ≤ j → j < end → marked marks j ≡ false
  none_left e j a b =
      let k = j - i in
      let z : i + k ≡ j = omega arith in
      let zero-there : word / 2 ^ k % 2 ≡ 0 = rw (e, zero-div) in
      rw z at (unmarked k (omega arith) zero-there)

  module _ (some : 0 < word) where
    lowest : (count_trailing_zeros 64 word < 64) × (word / 2 ^ count_trailing_zeros 64 word % 2 ≡ 1)
    lowest = lowest_set 64 word some w.small

    found : (ltb (i + count_trailing_zeros 64 word) end ≡ true) × (marked marks (i + count_trailing_zeros 64 word) ≡ true)
    found = both _ _ (sym (w.says (count_trailing_zeros 64 word)) ∙ rw lowest.1)

    pub skipped-few : count_trailing_zeros 64 word < 64
    skipped-few = lowest.0

    pub found_before : i + count_trailing_zeros 64 word < end
    found_before = ltb-true _ _ found.0

    pub found-marked : marked marks (i + count_trailing_zeros 64 word) ≡ true
    found-marked = found.1

    pub skipped-none : (j : ℕ) → i ≤ j → j < i + count_trailing_zeros 64 word → marked marks j ≡ false
    skipped-none j a b =
        let k = j - i in
        let z : i + k ≡ j = omega arith in
        rw z at (unmarked k (omega (arith, found_before)) (zeros-below 64 word k (omega arith)))

    pub next_word : Word marks (i + count_trailing_zeros 64 word + 1) end (word / 2 ^ count_trailing_zeros 64 word / 2 ^ 1)
    next_word = record { small = omega (arith, w.small, shr_le word (count_trailing_zeros 64 word)); says = says }
      where
        says : (k : ℕ) → digit (word / 2 ^ count_trailing_zeros 64 word / 2 ^ 1) k
            ≡ (ltb (i + count_trailing_zeros 64 word + 1 + k) end && marked marks (i + count_trailing_zeros 64 word + 1 + k))
        says k =
            let t = count_trailing_zeros 64 word in
            let z : i + (t + 1 + k) ≡ i + t + 1 + k = omega arith in
            let e : word / 2 ^ t / 2 ^ 1 / 2 ^ k ≡ word / 2 ^ (t + 1 + k)
            = ap (λ (y : ℕ). y / 2 ^ k) (shr-shr word t 1) ∙ shr-shr word (t + 1) k in
            rw e (w.says (t + 1 + k) ∙ rw z)

-- ---- bytes without a mark
module _ (s : List ℕ) (byte : (i : ℕ) → Fits w8 (get_or s i 0)) where
  word_none : (at : ℕ) → little s at 8 ≡ 0 → (j : ℕ) → 8 * at ≤ j → j < 8 * (at + 8) → marked s j ≡ false
  word_none at e = none_left (record { small = little-lt s byte at 8; says = word-says s byte at }) e

  pub four-none : (at : ℕ) → little s at 8 ≡ 0 → little s (at + 8) 8 ≡ 0 → little s (at + 16) 8 ≡ 0 → little s (at + 24) 8 ≡ 0
      → Unmarked s at (at + 32)
  four-none at a b c d j l h = go (dec_lt j (8 * (at + 8))) (dec_lt j (8 * (at + 16))) (dec_lt j (8 * (at + 24)))
    where
      go : Dec (j < 8 * (at + 8)) → Dec (j < 8 * (at + 16)) → Dec (j < 8 * (at + 24)) → marked s j ≡ false
      go (yes x) y z = word_none at a j l x
      go (no x) (yes y) z = word_none (at + 8) b j (omega arith) (omega arith)
      go (no x) (no y) (yes z) = word_none (at + 16) c j (omega arith) (omega arith)
      go (no x) (no y) (no z) = word_none (at + 24) d j (omega arith) (omega arith)

pub skip-start : (marks : List ℕ) (bytes at : ℕ) → at ≤ bytes + 7 → Skipped marks bytes at at
skip-start marks bytes at h =
    record { after = omega arith; aligned = refl; within = h; none = λ j a b. absurd (omega arith) }

pub skip-next : {marks : List ℕ} {bytes at k : ℕ} → Skipped marks bytes at k → k + 32 ≤ bytes → Unmarked marks k (k + 32)
    → Skipped marks bytes at (k + 32)
skip-next {marks} {bytes} {at} {k} t h u =
    record { after = omega (arith, t.after); aligned = omega (arith, t.aligned); within = omega arith; none = none }
  where
    none : Unmarked marks at (k + 32)
    none j a b = go (dec_lt j (8 * k))
      where
        go : Dec (j < 8 * k) → marked marks j ≡ false
        go (yes x) = t.none j a x
        go (no x) = u j (omega arith) b
