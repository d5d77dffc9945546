-- Does reading undo writing, and writing reading? What is written is decimal and stands for the number; and after the text of a
-- nonzero number each further digit makes the text of the number with that digit, so that a decimal text is what its number is
-- written as. Assumes nothing.
use mathlib.Core.Path.{◌≡◌, refl, sym, ◌∙◌}
use mathlib.Core.Bool.{Bool, true, false, cond, ◌&&◌, ◌||◌, not, true≢false}
use mathlib.Core.List.{List, [], ◌∷◌, ◌++◌, append_assoc, append-nil}
use Prim.Native.Nat.{ℕ, zero, suc, ◌+◌, ◌-◌, ◌*◌, ◌/◌, ◌%◌, ◌≤◌, ◌<◌}
use native.Mathlib.Nat.{mod-lt, div-add-mod, mul_comm}
use native.Mathlib.Omega.{arith}
use lib.Arith.{digits_div, digits_mod}
use lib.Dec.{leb, ltb, eqb, lit<}
use lib.ListN.{length, get_or, get_or-append}
use borrow.Author.Tests.{lt-ltb, le-leb, leb-true, ne_eqb}
use Rattle.decimal.specs.Decimal.{decimal, value_from, value_of, is_digit, all_digits, starts_well, is_decimal, zero_byte, nine_byte}
use Rattle.std.specs.Prelude.{Some, None}
use Rattle.std.proofs.lemmas.Option.{none-some, same_Some}
use Rattle.decimal.specs.Read.{read_number}
use Rattle.decimal.proofs.Written.{decimal-small, decimal-more, tenth-some, some-digit, by-tenths}

-- ---- tests joined
and_l : (a b : Bool) → (a && b) ≡ true → a ≡ true
and_l true b h = refl
and_l false b h = h

and_r : (a b : Bool) → (a && b) ≡ true → b ≡ true
and_r true b h = h
and_r false b h = absurd (true≢false (sym h))

or-true : (a : Bool) → (a || true) ≡ true
or-true true = refl
or-true false = refl

-- ---- what a digit is
digit-byte : (d : ℕ) → d < 10 → is_digit (zero_byte + d) ≡ true
digit-byte d h = rw (le-leb 48 (48 + d) (omega arith), le-leb (48 + d) 57 (omega arith))

digit-least : (b : ℕ) → is_digit b ≡ true → zero_byte ≤ b
digit-least b h = leb-true 48 b (and_l (leb 48 b) (leb b 57) h)

digit-most : (b : ℕ) → is_digit b ≡ true → b ≤ nine_byte
digit-most b h = leb-true b 57 (and_r (leb 48 b) (leb b 57) h)

-- ---- one more digit at the end
value-snoc : (v : ℕ) (t : List ℕ) (b : ℕ) → value_from v (t ++ (b ∷ [])) ≡ 10 * value_from v t + (b - zero_byte)
unfolding value_from
value-snoc v [] b = refl
value-snoc v (a ∷ t) b = value-snoc (10 * v + (a - zero_byte)) t b

all_snoc : (t : List ℕ) (b : ℕ) → all_digits t ≡ true → is_digit b ≡ true → all_digits (t ++ (b ∷ [])) ≡ true
unfolding all_digits
all_snoc [] b h k = rw k
all_snoc (a ∷ t) b h k = rw (and_l (is_digit a) (all_digits t) h) (all_snoc t b (and_r (is_digit a) (all_digits t) h) k)

-- ---- what is written stands for the number
pub value-of-decimal : (n : ℕ) → value_of (decimal n) ≡ n
unfolding value_from
value-of-decimal = by-tenths (λ n. value_of (decimal n) ≡ n) small more
  where
    small : (n : ℕ) → n < 10 → value_of (decimal n) ≡ n
    small n h = rw (decimal-small n h) (omega arith)

    more : (n : ℕ) → 10 ≤ n → value_of (decimal (n / 10)) ≡ n / 10 → value_of (decimal n) ≡ n
    more n h i = rw (decimal-more n h, value-snoc, i) (omega (arith, div-add-mod n 10))

-- ---- and is decimal
all-of-decimal : (n : ℕ) → all_digits (decimal n) ≡ true
unfolding all_digits
all-of-decimal = by-tenths (λ n. all_digits (decimal n) ≡ true) small more
  where
    small : (n : ℕ) → n < 10 → all_digits (decimal n) ≡ true
    small n h = rw (decimal-small n h, digit-byte n h)

    more : (n : ℕ) → 10 ≤ n → all_digits (decimal (n / 10)) ≡ true → all_digits (decimal n) ≡ true
    more n h i = rw (decimal-more n h) (all_snoc (decimal (n / 10)) (48 + n % 10) i (digit-byte (n % 10) (mod-lt n (lit< tt))))

first-digit : (n : ℕ) → 0 < n → zero_byte < get_or (decimal n) 0 0
first-digit = by-tenths (λ n. 0 < n → zero_byte < get_or (decimal n) 0 0) small more
  where
    small : (n : ℕ) → n < 10 → 0 < n → zero_byte < get_or (decimal n) 0 0
    small n h p = rw (decimal-small n h) (omega arith)

    more : (n : ℕ) → 10 ≤ n → (0 < n / 10 → zero_byte < get_or (decimal (n / 10)) 0 0) → 0 < n → zero_byte < get_or (decimal n) 0 0
    more n h i p = rw (decimal-more n h, get_or-append (decimal (n / 10)) _ 0 0 (some-digit (n / 10))) (i (tenth-some n h))

all_first : (t : List ℕ) → 0 < length t → all_digits t ≡ true → is_digit (get_or t 0 0) ≡ true
unfolding all_digits
all_first [] p h = absurd (omega arith)
all_first (b ∷ t) p h = and_l (is_digit b) (all_digits t) h

pub first-least : (n : ℕ) → zero_byte ≤ get_or (decimal n) 0 0
first-least n = digit-least (get_or (decimal n) 0 0) (all_first (decimal n) (some-digit n) (all-of-decimal n))

pub decimal-decimal : (n : ℕ) → is_decimal (decimal n) ≡ true
unfolding is_decimal starts_well all_digits
decimal-decimal zero = rw (decimal-small 0 (lit< tt))
decimal-decimal (suc n) =
    let d = decimal (suc n) in
    let f = first-digit (suc n) (omega arith) in
    rw (lt-ltb 0 (length d) (some-digit (suc n)), ne_eqb (get_or d 0 0) 48 (λ e. omega arith), or-true, all-of-decimal (suc n))

-- ---- a decimal text is what its number is written as
further : (v : ℕ) (t : List ℕ) → 0 < v → all_digits t ≡ true → decimal (value_from v t) ≡ decimal v ++ t
unfolding value_from all_digits
further v [] p h = sym (append-nil (decimal v))
further v (b ∷ t) p h =
    let k = and_l (is_digit b) (all_digits t) h in
    let least = digit-least b k in
    let most = digit-most b k in
    let w = 10 * v + (b - zero_byte) in
    let q : w / 10 ≡ v = rw (mul_comm 10 v) (digits_div v {m = 10} {r = b - 48} (omega arith)) in
    let r : w % 10 ≡ b - 48 = rw (mul_comm 10 v) (digits_mod v {m = 10} {r = b - 48} (omega arith)) in
    let e : 48 + (b - 48) ≡ b = omega arith in
    further w t (omega arith) (and_r (is_digit b) (all_digits t) h)
    ∙ rw (decimal-more w (omega arith), q, r, e) (append_assoc (decimal v) (b ∷ []) t)

no_zero : (b c : ℕ) (t : List ℕ) → starts_well (b ∷ c ∷ t) ≡ true → b ≡ zero_byte → ⊥
unfolding starts_well
no_zero b c t h e =
    let n = suc (suc (length t)) in
    let one = ne_eqb n 1 (λ k. omega arith) in
    true≢false (sym (rw (one, e) at (and_r (ltb 0 n) (eqb n 1 || not (eqb b 48)) h)))

pub decimal-of-value : (t : List ℕ) → is_decimal t ≡ true → decimal (value_of t) ≡ t
unfolding is_decimal starts_well value_from all_digits
decimal-of-value [] h = absurd (true≢false (sym h))
decimal-of-value (b ∷ []) h =
    let k = and_l (is_digit b) true h in
    let least = digit-least b k in
    let most = digit-most b k in
    let e : 48 + (0 + (b - 48)) ≡ b = omega arith in
    decimal-small (0 + (b - 48)) (omega arith) ∙ rw e
decimal-of-value (b ∷ c ∷ t) h =
    let s = and_l (starts_well (b ∷ c ∷ t)) (all_digits (b ∷ c ∷ t)) h in
    let d = and_r (starts_well (b ∷ c ∷ t)) (all_digits (b ∷ c ∷ t)) h in
    let k = and_l (is_digit b) (all_digits (c ∷ t)) d in
    let least = digit-least b k in
    let most = digit-most b k in
    let some = no_zero b c t s in
    let e : 48 + (0 + (b - 48)) ≡ b = omega arith in
    further (0 + (b - 48)) (c ∷ t) (omega arith) (and_r (is_digit b) (all_digits (c ∷ t)) d)
    ∙ rw (decimal-small (0 + (b - 48)) (omega arith), e)

-- ---- so a text is accepted exactly where it is what its number is written as
pub read_back : (most n : ℕ) → n ≤ most → read_number most (decimal n) ≡ Some n
unfolding read_number
read_back most n h = rw (decimal-decimal n, value-of-decimal n, le-leb n most h)

pub read-exact : (most : ℕ) (t : List ℕ) (n : ℕ) → read_number most t ≡ Some n → decimal n ≡ t
unfolding read_number
read-exact most t n = go (is_decimal t) (leb (value_of t) most) (decimal-of-value t)
  where
    go : (a b : Bool) → (a ≡ true → decimal (value_of t) ≡ t) → cond (a && b) (Some (value_of t)) None ≡ Some n → decimal n ≡ t
    go true true e h = rw (← same_Some _ _ h) (e refl)
    go true false e h = absurd (none-some n h)
    go false b e h = absurd (none-some n h)
