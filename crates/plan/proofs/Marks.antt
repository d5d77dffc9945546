-- A bitmap with one more mark, how the loop over a run goes on, and which marks there are then: those of the run alone,
-- since the bytes of all tiles were cleared.
-- Assumes nothing.
use Rattle.std.proofs.Common.{◌≡◌, ℕ, zero, suc, ◌+◌, ◌-◌, ◌*◌, ◌/◌, ◌%◌, ◌^◌, ◌<◌, ◌≤◌, Bool, true, false, cond, ◌||◌, eqb, ltb, leb, List, [], ◌∷◌, length, get_or, drop, set, refl, ◌∙◌, one-mul, add-one, arith, length-set, drop_of_length-le, drop-cons, get_or-set_other, get_or-set_same, pow_pos, pow-add, le-ltb, lt-ltb, eq-eqb, ne_eqb, le-leb}
use mathlib.Core.Bool.{or-false}
use native.Mathlib.Nat.{div-eq_of_lt, div_self, zero-div}
use native.Mathlib.Decide.{dec_lt, ℕ_discrete}
use lib.Bits.{bit_or, or_shr, or_mod, or_zero_r, shifted_even}
use lib.Pow.{pow-lt, shl-shr}
use borrow.Author.Tests.{lt-leb}
use Rattle.plan.specs.Plan.{occurs, how_many}
use Rattle.plan.specs.Code.Marks.{digit, marked, marking, MarksRun, Cleared}

-- ---- one digit of a byte
digit_or : (x y k : ℕ) → bit_or x y / 2 ^ k % 2 ≡ bit_or (x / 2 ^ k % 2) (y / 2 ^ k % 2)
digit_or x y k = rw or_shr (or_mod (x / 2 ^ k) (y / 2 ^ k) 1)

one-there : (d : ℕ) → d < 2 → bit_or d 1 ≡ 1
one-there zero h = refl
one-there (suc zero) h = refl
one-there (suc (suc d)) h = absurd (omega arith)

digit_set : (x k : ℕ) → digit (bit_or x (2 ^ k)) k ≡ true
digit_set x k =
    let one : 2 ^ k / 2 ^ k % 2 ≡ 1 = rw (div_self (pow_pos k)) in
    rw (digit_or x (2 ^ k) k, one, one-there (x / 2 ^ k % 2) (omega arith))

other-digit : (j k : ℕ) → (j ≡ k → ⊥) → 2 ^ j / 2 ^ k % 2 ≡ 0
other-digit j k h = go (dec_lt j k)
  where
    go : Dec (j < k) → 2 ^ j / 2 ^ k % 2 ≡ 0
    go (yes l) = rw (div-eq_of_lt (pow-lt l))
    go (no l) =
        let d = j - k - 1 in
        let z : j ≡ suc d + k = omega arith in
        rw (z, pow-add 2 (suc d) k, shl-shr (2 ^ suc d) k, ← one-mul (2 ^ suc d)) (shifted_even 1 d)

digit-kept : (x j k : ℕ) → (j ≡ k → ⊥) → digit (bit_or x (2 ^ j)) k ≡ digit x k
digit-kept x j k h = rw (digit_or x (2 ^ j) k, other-digit j k h, or_zero_r)

-- ---- one more mark
pub marking-marks : (marks : List ℕ) (j i : ℕ) → j < 8 * length marks
    → marked (marking marks j) i ≡ (eqb j i || marked marks i)
unfolding marked marking
marking-marks marks j i h = go (ℕ_discrete (i / 8) (j / 8)) (ℕ_discrete (j % 8) (i % 8))
  where
    go : Dec (i / 8 ≡ j / 8) → Dec (j % 8 ≡ i % 8)
        → digit (get_or (set marks (j / 8) (bit_or (get_or marks (j / 8) 0) (2 ^ (j % 8)))) (i / 8) 0) (i % 8)
        ≡ (eqb j i || digit (get_or marks (i / 8) 0) (i % 8))
    go (yes e) (yes d) =
        rw (e, get_or-set_same marks (j / 8) (bit_or (get_or marks (j / 8) 0) (2 ^ (j % 8))) 0 (omega arith), eq-eqb j i (omega arith), ← d)
        (digit_set (get_or marks (j / 8) 0) (j % 8))
    go (yes e) (no d) =
        rw (e, get_or-set_same marks (j / 8) (bit_or (get_or marks (j / 8) 0) (2 ^ (j % 8))) 0 (omega arith), ne_eqb j i (λ z. d (omega arith)))
        (digit-kept (get_or marks (j / 8) 0) (j % 8) (i % 8) d)
    go (no e) q =
        rw (get_or-set_other marks (j / 8) (i / 8) (bit_or (get_or marks (j / 8) 0) (2 ^ (j % 8))) 0 e, ne_eqb j i (λ z. e (omega arith)))

pub marking-size : (marks : List ℕ) (j : ℕ) → length (marking marks j) ≡ length marks
unfolding marking
marking-size marks j = length-set marks (j / 8) _

-- ---- the loop at the k-th of the run
pub record Marked (n : ℕ) (run first marks : List ℕ) (inside k : ℕ) : Type 0 where
  pub within : k ≤ length run
  pub low : inside ≤ k
  pub size : length marks ≡ length first
  pub counted : inside + how_many (λ x. ltb x n) (drop k run) ≡ how_many (λ x. ltb x n) run
  pub says : (i : ℕ) → i < n → (occurs (drop k run) i || marked marks i) ≡ (occurs run i || marked first i)

either : (a b c : Bool) → (a || (b || c)) ≡ ((b || a) || c)
either true true c = refl
either true false c = refl
either false true c = refl
either false false c = refl

pub marked_start : (n : ℕ) (run first : List ℕ) → Marked n run first first 0 0
marked_start n run first =
    record { within = omega arith; low = omega arith; size = refl; counted = omega arith; says = λ i h. refl }

module _ {n : ℕ} {run first marks : List ℕ} {inside k : ℕ} (m : Marked n run first marks inside k) (h : k < length run) where
  occurs-next : (i : ℕ) → occurs (drop k run) i ≡ (eqb (get_or run k 0) i || occurs (drop (k + 1) run) i)
  unfolding occurs
  occurs-next i = rw (drop-cons run k 0 h, add-one k)

  counted_next : how_many (λ x. ltb x n) (drop k run) ≡ cond (ltb (get_or run k 0) n) 1 0 + how_many (λ x. ltb x n) (drop (k + 1) run)
  unfolding how_many
  counted_next = rw (drop-cons run k 0 h, add-one k)

  pub mark-next : get_or run k 0 < n → n ≤ 8 * length first → (marks' : List ℕ) → marks' ≡ marking marks (get_or run k 0)
      → Marked n run first marks' (inside + 1) (k + 1)
  mark-next low room marks' e =
      let z : ltb (get_or run k 0) n ≡ true = lt-ltb (get_or run k 0) n low in
      record {
        within = omega arith;
        low = omega (arith, m.low);
        size = rw e (marking-size marks (get_or run k 0) ∙ m.size);
        counted = omega (arith, m.counted, rw z at counted_next);
        says = λ i l.
            rw (
              e,
              marking-marks marks (get_or run k 0) i (omega (arith, m.size)),
              either (occurs (drop (k + 1) run) i) (eqb (get_or run k 0) i) (marked marks i),
              ← occurs-next i,
            )
            (m.says i l);
      }

  pub mark-skip : n ≤ get_or run k 0 → Marked n run first marks inside (k + 1)
  mark-skip high =
      let t : ltb (get_or run k 0) n ≡ false = le-ltb (get_or run k 0) n high in
      record {
        within = omega arith;
        low = omega (arith, m.low);
        size = m.size;
        counted = omega (arith, m.counted, rw t at counted_next);
        says = λ i l.
            let z : eqb (get_or run k 0) i ≡ false = ne_eqb (get_or run k 0) i (λ z. omega arith) in
            let same : occurs (drop k run) i ≡ occurs (drop (k + 1) run) i = occurs-next i ∙ rw z in
            rw (← same) (m.says i l);
      }

module _ {n : ℕ} {run first marks : List ℕ} {inside k : ℕ} (m : Marked n run first marks inside k) (h : length run ≤ k) where
  pub mark-end : MarksRun n run first marks
  unfolding occurs
  mark-end i l = rw (drop_of_length-le run {i = k} h) at (m.says i l)

  pub inside-end : inside ≡ how_many (λ x. ltb x n) run
  unfolding how_many
  inside-end =
      let e : inside + how_many (λ x. ltb x n) [] ≡ how_many (λ x. ltb x n) run
      = rw (drop_of_length-le run {i = k} h) at m.counted in
      omega (arith, e)

-- ---- the marks are those of the run alone
pub marks-alone : (n bytes : ℕ) (run first marks : List ℕ) → n ≤ 8 * bytes → Cleared bytes first → MarksRun n run first marks
    → (i : ℕ) → i < n → marked marks i ≡ occurs run i
unfolding marked
marks-alone n bytes run first marks room clear m i h =
    m i h ∙ rw (clear (i / 8) (omega arith), zero-div) (or-false (occurs run i))

-- ---- an entry is below n or isn't
pub in-or-out : (n : ℕ) (run : List ℕ) → how_many (λ x. ltb x n) run + how_many (λ x. leb n x) run ≡ length run
unfolding how_many
in-or-out n [] = refl
in-or-out n (x ∷ xs) = go (dec_lt x n) (in-or-out n xs)
  where
    go : Dec (x < n) → how_many (λ x. ltb x n) xs + how_many (λ x. leb n x) xs ≡ length xs
        → cond (ltb x n) 1 0 + how_many (λ x. ltb x n) xs + (cond (leb n x) 1 0 + how_many (λ x. leb n x) xs) ≡ suc (length xs)
    go (yes h) e = rw (lt-ltb x n h, lt-leb n x h) (omega (arith, e))
    go (no h) e = rw (le-ltb x n (omega arith), le-leb n x (omega arith)) (omega (arith, e))

-- ---- one more byte is cleared
pub cleared-next : (marks : List ℕ) (i : ℕ) → i < length marks → Cleared i marks → Cleared (i + 1) (set marks i 0)
cleared-next marks i h p j l = go (ℕ_discrete j i)
  where
    go : Dec (j ≡ i) → ◌≡◌ {A = ℕ} (get_or (set marks i 0) j 0) 0
    go (yes e) = rw (e, get_or-set_same marks i 0 0 h)
    go (no e) = get_or-set_other marks i j 0 0 e ∙ p j (omega arith)
