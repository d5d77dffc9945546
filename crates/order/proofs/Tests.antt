-- When are two tests the same? Small facts on tests of numbers that the laws of order share. Assumes nothing.
use mathlib.Core.Path.{◌≡◌, refl, sym}
use mathlib.Core.Logic.{◌⊎◌, inl, inr}
use mathlib.Core.Bool.{Bool, true, false, not, ◌&&◌, ◌||◌}
use Prim.Native.Nat.{ℕ, zero, suc, ◌≤◌, ◌<◌}
use native.Mathlib.Nat.{not-le_of_lt, zero-lt-suc, le_of_eq, le_of_lt, eq-or-lt_of_le}
use lib.Dec.{T, leb, ltb, eqb, leb→le, le→leb, ltb→lt, lt→ltb, nleb→lt, nltb→le, eqb→eq, not_T}
use lib.Ieee.Bits.{is_false}
use lib.Ieee.Fits.{and_l, and_r, eq→eqb}

-- each passes where the other does
pub same_test : (a b : Bool) → (T a → T b) → (T b → T a) → a ≡ b
same_test true true p q = refl
same_test true false p q = absurd (p tt)
same_test false true p q = absurd (q tt)
same_test false false p q = refl

pub or_l : (a b : Bool) → T a → T (a || b)
or_l true b t = tt
or_l false b t = absurd t

pub or_r : (a b : Bool) → T b → T (a || b)
or_r true b t = tt
or_r false b t = t

pub or_split : (a b : Bool) → T (a || b) → T a ⊎ T b
or_split true b t = inl tt
or_split false b t = inr t

pub no-and : (a b : Bool) → (T a → T b → ⊥) → false ≡ (a && b)
no-and a b n = sym (is_false (a && b) (not_T (a && b) (λ k. n (and_l a b k) (and_r a b k))))

pub zero-or-more : (n : ℕ) → (n ≡ 0) ⊎ (0 < n)
zero-or-more zero = inl refl
zero-or-more (suc n) = inr (zero-lt-suc n)

pub under-or-not : (n h : ℕ) → (n < h) ⊎ (h ≤ n)
under-or-not n h = go (ltb n h) (ltb→lt n h) (nltb→le n h)
  where
    go : (b : Bool) → (T b → n < h) → (T (not b) → h ≤ n) → (n < h) ⊎ (h ≤ n)
    go true p q = inl (p tt)
    go false p q = inr (q tt)

pub clash : (a b : ℕ) → a < b → T (leb b a) → ⊥
clash a b l k = not-le_of_lt l (leb→le b a k)

-- one order by another
pub not-leb : (a b : ℕ) → not (leb b a) ≡ ltb a b
not-leb a b =
    same_test (not (leb b a)) (ltb a b) (λ k. lt→ltb a b (nleb→lt b a k)) (λ k. not_T (leb b a) (clash a b (ltb→lt a b k)))

pub lt-or-eq : (a b : ℕ) → (ltb a b || eqb a b) ≡ leb a b
lt-or-eq a b =
    same_test (ltb a b || eqb a b) (leb a b)
    (λ k. elim (or_split (ltb a b) (eqb a b) k) [
      | inl u ↦ le→leb a b (le_of_lt (ltb→lt a b u))
      | inr u ↦ le→leb a b (le_of_eq (eqb→eq a b u))
    ])
    (λ k. elim (eq-or-lt_of_le (leb→le a b k)) [
      | inl e ↦ or_r (ltb a b) (eqb a b) (eq→eqb e)
      | inr l ↦ or_l (ltb a b) (eqb a b) (lt→ltb a b l)
    ])
