-- The first best of a row as a loop finds it: with one more box the best so far stays, unless the new one is strictly
-- better (`low-taken`, `high_taken`); and the comparison decides it, as far as the row goes (`best-same`).
-- Assumes nothing.
use mathlib.Core.Path.{◌≡◌, refl, sym, ap, ◌∙◌}
use mathlib.Core.Bool.{Bool, true, false, cond, true≢false}
use mathlib.Core.List.{List}
use Prim.Native.Nat.{ℕ, zero, suc, ◌+◌, ◌*◌, ◌≤◌, ◌<◌}
use native.Mathlib.Nat.{add-zero, add-suc, suc-add}
use native.Mathlib.Omega.{arith}
use lib.Dec.{leb, ltb}
use borrow.Author.Tests.{le-leb, leb-true, leb-false, le-ltb, lt-ltb}
use Rattle.description.specs.declared.Kind.{Kind}
use Rattle.description.specs.Kinds.{key}
use Rattle.ranges.specs.Ranges.{ends_at}
use Rattle.boxes.specs.Least.{first_best}
use Rattle.boxes.proofs.Least.{best-in}
use Rattle.writer.specs.Code.Rows.{lowest_of, highest_of}

module _ (as_good : ℕ → ℕ → Bool)
    (any : (a b : ℕ) → as_good a b ≡ false → as_good b a ≡ true)
    (goes_on : (a b c : ℕ) → as_good a b ≡ true → as_good b c ≡ true → as_good a c ≡ true) where
  -- of three: the best of the first two and then of that and the third, or the other way round
  of_three : (k r l : ℕ) → cond (as_good k (cond (as_good r l) r l)) k (cond (as_good r l) r l)
      ≡ cond (as_good (cond (as_good k r) k r) l) (cond (as_good k r) k r) l
  of_three k r l = go (as_good r l) refl (as_good k r) refl (as_good k l) refl
    where
      go : (s : Bool) → as_good r l ≡ s → (t : Bool) → as_good k r ≡ t → (u : Bool) → as_good k l ≡ u
          → cond (as_good k (cond s r l)) k (cond s r l) ≡ cond (as_good (cond t k r) l) (cond t k r) l
      go true p true q true e = rw (q, e)
      go true p true q false e = absurd (true≢false (sym (goes_on k r l q p) ∙ e))
      go true p false q u e = rw (q, p)
      go false p true q u e = refl
      go false p false q true e = absurd (true≢false (sym (goes_on k l r e (any r l p)) ∙ q))
      go false p false q false e = rw (e, p)

  best-more : (k more : ℕ) → first_best as_good k (suc more)
      ≡ cond (as_good (first_best as_good k more) (suc (k + more))) (first_best as_good k more) (suc (k + more))
  unfolding first_best
  best-more k zero = rw add-zero
  best-more k (suc more) =
      rw (best-more (suc k) more, suc-add, add-suc) (of_three k (first_best as_good (suc k) more) (suc (suc (k + more))))

-- the comparison decides it, as far as the row goes
pub best-same : (g h : ℕ → ℕ → Bool) (k more : ℕ)
    → ((a b : ℕ) → k ≤ a → a < k + suc more → k ≤ b → b < k + suc more → g a b ≡ h a b) → first_best g k more ≡ first_best h k more
unfolding first_best
best-same g h k zero p = refl
best-same g h k (suc more) p =
    let rest = best-in h (suc k) more in
    rw (
      best-same g h (suc k) more (λ a b al ah bl bh. p a b (omega arith) (omega arith) (omega arith) (omega arith)),
      p k (first_best h (suc k) more) (omega arith) (omega arith) (omega arith) (omega arith),
    )

-- the later one is taken only where it is strictly better
pub other_way : {A : Type 0} (a b : ℕ) (x y : A) → cond (leb a b) x y ≡ cond (ltb b a) y x
other_way {A} a b x y = go (leb a b) refl
  where
    go : (t : Bool) → leb a b ≡ t → cond t x y ≡ cond (ltb b a) y x
    go true e = rw (le-ltb b a (leb-true a b e))
    go false e = rw (lt-ltb b a (leb-false a b e))

any : (a b : ℕ) → leb a b ≡ false → leb b a ≡ true
any a b h = le-leb b a (omega (arith, leb-false a b h))

goes_on : (a b c : ℕ) → leb a b ≡ true → leb b c ≡ true → leb a c ≡ true
goes_on a b c p q = le-leb a c (omega (arith, leb-true a b p, leb-true b c q))

-- what is kept of the better one of two boxes
kept : {A : Type 0} (val : ℕ → A) (t : Bool) (x y : ℕ) → cond t (val x) (val y) ≡ val (cond t x y)
kept val true x y = refl
kept val false x y = refl

-- of a row of boxes from k on, 1 + more of them, and the one after it
module _ (kind : Kind) (rest : List ℕ) (b side k more new : ℕ) (is : new ≡ suc (k + more)) {A : Type 0} (val : ℕ → A) where
  abbrev low_key : ℕ → ℕ
  low_key c = key kind (ends_at kind rest (c * b + side)).low

  abbrev high_key : ℕ → ℕ
  high_key c = key kind (ends_at kind rest (c * b + side)).high

  pub low-taken : (best : ℕ) → best ≡ lowest_of kind rest b side k more
      → cond (ltb (low_key new) (low_key best)) (val new) (val best) ≡ val (lowest_of kind rest b side k (suc more))
  unfolding lowest_of
  low-taken best e =
      kept val (ltb (low_key new) (low_key best)) new best
      ∙ ap val
      (sym (best-more (λ i j. leb (low_key i) (low_key j)) (λ i j. any (low_key i) (low_key j)) (λ i j l. goes_on (low_key i) (low_key j) (low_key l)) k more
      ∙ rw (← is, ← e) (other_way (low_key best) (low_key new) best new)))

  pub high_taken : (best : ℕ) → best ≡ highest_of kind rest b side k more
      → cond (ltb (high_key best) (high_key new)) (val new) (val best) ≡ val (highest_of kind rest b side k (suc more))
  unfolding highest_of
  high_taken best e =
      kept val (ltb (high_key best) (high_key new)) new best
      ∙ ap val
      (sym (best-more (λ i j. leb (high_key j) (high_key i)) (λ i j. any (high_key j) (high_key i)) (λ i j l p q. goes_on (high_key l) (high_key j) (high_key i) q p) k more
      ∙ rw (← is, ← e) (other_way (high_key new) (high_key best) best new)))

-- of one box alone
pub one-lowest : (kind : Kind) (rest : List ℕ) (b side k more : ℕ) → more ≡ 0 → lowest_of kind rest b side k more ≡ k
unfolding lowest_of first_best
one-lowest kind rest b side k more z = rw z

pub one-highest : (kind : Kind) (rest : List ℕ) (b side k more : ℕ) → more ≡ 0 → highest_of kind rest b side k more ≡ k
unfolding highest_of first_best
one-highest kind rest b side k more z = rw z
