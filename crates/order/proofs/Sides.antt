-- Which of two numbers is at most the other, where each is a sign and a magnitude? What the logic's comparisons of
-- finite floats test comes to `at_most`, and that to the order about a middle. Assumes nothing.
use mathlib.Core.Path.{◌≡◌, refl, sym, ap, ◌∙◌}
use mathlib.Core.Logic.{inl, inr}
use mathlib.Core.Bool.{Bool, true, false, ◌&&◌, ◌||◌}
use Prim.Native.Nat.{ℕ, ◌+◌, ◌-◌, ◌≤◌}
use native.Mathlib.Omega.{arith}
use lib.Dec.{leb, ltb, eqb, leb→le, le→leb, lt→ltb, eqb→eq}
use lib.Ieee.{below, level}
use lib.Ieee.Bits.{is_true}
use lib.Ieee.Fits.{and_i, and_l, and_r, eq→eqb}
use Rattle.order.specs.Key.{about}
use Rattle.order.proofs.Tests.{same_test, or_l, or_r, zero-or-more, lt-or-eq}

abbrev pub at_most : Bool → ℕ → Bool → ℕ → Bool
at_most false a false b = leb a b
at_most false a true b = leb a 0 && leb b 0
at_most true a false b = true
at_most true a true b = leb b a

-- it asks only for the order of the magnitudes, and which of them are 0
pub at_most-cong : (s t : Bool) (a b c d : ℕ) → leb a b ≡ leb c d → leb b a ≡ leb d c → leb a 0 ≡ leb c 0 → leb b 0 ≡ leb d 0
    → at_most s a t b ≡ at_most s c t d
at_most-cong false false a b c d p q x y = p
at_most-cong false true a b c d p q x y = λ i. x i && y i
at_most-cong true false a b c d p q x y = refl
at_most-cong true true a b c d p q x y = q

-- ---- the logic's test of two finite values: less or equal
and-true : (a : Bool) → (a && true) ≡ a
and-true true = refl
and-true false = refl

both_zero : (a b : ℕ) → (eqb a b && eqb a 0) ≡ (leb a 0 && leb b 0)
both_zero a b =
    same_test (eqb a b && eqb a 0) (leb a 0 && leb b 0)
    (λ k.
    let e : a ≡ b = eqb→eq a b (and_l (eqb a b) (eqb a 0) k) in
    let z : a ≡ 0 = eqb→eq a 0 (and_r (eqb a b) (eqb a 0) k) in
    and_i (leb a 0) (leb b 0) (omega (arith, le→leb)) (omega (arith, le→leb)))
    (λ k.
    let x : a ≤ 0 = leb→le a 0 (and_l (leb a 0) (leb b 0) k) in
    let y : b ≤ 0 = leb→le b 0 (and_r (leb a 0) (leb b 0) k) in
    and_i (eqb a b) (eqb a 0) (omega (arith, eq→eqb)) (omega (arith, eq→eqb)))

pub either_is : (s t : Bool) (a b : ℕ) → (below s a t b || level s a t b) ≡ at_most s a t b
either_is false false a b = ap (λ (x : Bool). ltb a b || x) (and-true (eqb a b)) ∙ lt-or-eq a b
either_is false true a b = both_zero a b
either_is true false a b =
    is_true (ltb 0 (a + b) || (eqb a b && eqb a 0))
    (elim (zero-or-more (a + b)) [
      | inl z ↦ or_r (ltb 0 (a + b)) (eqb a b && eqb a 0) (and_i (eqb a b) (eqb a 0) (omega (arith, eq→eqb)) (omega (arith, eq→eqb)))
      | inr p ↦ or_l (ltb 0 (a + b)) (eqb a b && eqb a 0) (lt→ltb 0 (a + b) p)
    ])
either_is true true a b =
    ap (λ (x : Bool). ltb b a || x) (and-true (eqb a b) ∙ same_test (eqb a b) (eqb b a) (λ k. eq→eqb (sym (eqb→eq a b k))) (λ k. eq→eqb (sym (eqb→eq b a k))))
    ∙ lt-or-eq b a

-- ---- about a middle c that is no less than either magnitude
pub about-middle : (c : ℕ) (s t : Bool) (a b : ℕ) → a ≤ c → b ≤ c → at_most s a t b ≡ leb (about c s a) (about c t b)
about-middle c false false a b A B =
    same_test (leb a b) (leb (c + a) (c + b)) (λ k. omega (arith, leb→le, le→leb)) (λ k. omega (arith, leb→le, le→leb))
about-middle c false true a b A B =
    same_test (leb a 0 && leb b 0) (leb (c + a) (c - b))
    (λ k.
    let x : a ≤ 0 = leb→le a 0 (and_l (leb a 0) (leb b 0) k) in
    let y : b ≤ 0 = leb→le b 0 (and_r (leb a 0) (leb b 0) k) in
    omega (arith, le→leb))
    (λ k. and_i (leb a 0) (leb b 0) (omega (arith, leb→le, le→leb)) (omega (arith, leb→le, le→leb)))
about-middle c true false a b A B = sym (is_true (leb (c - a) (c + b)) (omega (arith, le→leb)))
about-middle c true true a b A B =
    same_test (leb b a) (leb (c - a) (c - b)) (λ k. omega (arith, leb→le, le→leb)) (λ k. omega (arith, leb→le, le→leb))
