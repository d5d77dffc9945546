-- A name is looked for along its chain: the lines that the chain leaves out have other names.
-- Assumes nothing.
use mathlib.Core.Path.{◌≡◌, refl, ap, sym, ◌∙◌}
use mathlib.Core.Bool.{Bool, true, false, cond, ◌&&◌, ◌||◌, false≢true}
use mathlib.Core.List.{List, [], ◌∷◌, ◌++◌}
use Prim.Native.Nat.{ℕ, zero, suc, ◌-◌, ◌≤◌, ◌<◌}
use native.Mathlib.Omega.{arith}
use lib.Dec.{eqb}
use lib.ListN.{length, take}
use lib.Seq.{take-suc}
use borrow.Author.Tests.{eqb-true, eqb-false}
use Rattle.text.specs.Text.{Bytes, same}
use Rattle.text.proofs.Compared.{same_true}
use Rattle.commits.specs.Records.{kind_of, name_of}
use Rattle.commits.specs.Committed.{some, bears, names, line_in}
use Rattle.commits.specs.Code.Index.{chain_of, last_in}

or-false : (a : Bool) → (a || false) ≡ a
or-false true = refl
or-false false = refl

or-true : (a : Bool) → (a || true) ≡ true
or-true true = refl
or-true false = refl

module _ (test : Bytes → Bool) where
  some-append : (xs : List Bytes) (l : Bytes) → some test (xs ++ (l ∷ [])) ≡ (some test xs || test l)
  unfolding some
  some-append [] l = or-false (test l)
  some-append (x ∷ xs) l = go (test x) (some-append xs l)
    where
      go : (b : Bool) → some test (xs ++ (l ∷ [])) ≡ (some test xs || test l) → (b || some test (xs ++ (l ∷ []))) ≡ ((b || some test xs) || test l)
      go true h = refl
      go false h = h

  pub some_more : (ls : List Bytes) (i : ℕ) → i < length ls → some test (take (suc i) ls) ≡ (some test (take i ls) || test (line_in ls i))
  some_more ls i h = ap (some test) (take-suc ls i [] h) ∙ some-append (take i ls) (line_in ls i)

module _ (ls : List Bytes) (h : ℕ) where
  abbrev chain : ℕ → ℕ
  chain i = chain_of (name_of (line_in ls i))

  last-le : (m : ℕ) → last_in ls h m ≤ m
  unfolding last_in
  last-le zero = omega arith
  last-le (suc i) = go (eqb (chain i) h) (last-le i)
    where
      go : (b : Bool) → last_in ls h i ≤ i → cond b (suc i) (last_in ls h i) ≤ suc i
      go true l = omega arith
      go false l = omega arith

  last-in : (m : ℕ) → 0 < last_in ls h m → chain (last_in ls h m - 1) ≡ h
  unfolding last_in
  last-in zero l = absurd (omega arith)
  last-in (suc i) l = go (eqb (chain i) h) refl (last-in i) l
    where
      go : (b : Bool) → eqb (chain i) h ≡ b → (0 < last_in ls h i → chain (last_in ls h i - 1) ≡ h)
          → 0 < cond b (suc i) (last_in ls h i) → chain (cond b (suc i) (last_in ls h i) - 1) ≡ h
      go true e f l =
          let z : suc i - 1 ≡ i = omega arith in
          rw z (eqb-true (chain i) h e)
      go false e f l = f l

  module _ (test : Bytes → Bool) (only : (l : Bytes) → test l ≡ true → chain_of (name_of l) ≡ h) where
    last-same : (m : ℕ) → m ≤ length ls → some test (take m ls) ≡ some test (take (last_in ls h m) ls)
    unfolding last_in
    last-same zero l = refl
    last-same (suc i) l = go (eqb (chain i) h) (test (line_in ls i)) refl refl (last-same i (omega arith))
      where
        go : (b t : Bool) → eqb (chain i) h ≡ b → test (line_in ls i) ≡ t → some test (take i ls) ≡ some test (take (last_in ls h i) ls)
            → some test (take (suc i) ls) ≡ some test (take (cond b (suc i) (last_in ls h i)) ls)
        go true t e f g = refl
        go false true e f g = absurd (eqb-false (chain i) h e (only (line_in ls i) f))
        go false false e f g = some_more test ls i (omega arith) ∙ rw (f, or-false (some test (take i ls))) g

-- ---- the walk along a chain, at the line before `at`
pub record Walk (ls : List Bytes) (kind : ℕ) (name : Bytes) (n at : ℕ) : Type 0 where
  pub there : n ≤ length ls
  pub below : at ≤ n
  pub within : 0 < at → chain_of (name_of (line_in ls (at - 1))) ≡ chain_of name
  pub left : names kind (take n ls) name ≡ names kind (take at ls) name

only : (kind : ℕ) (name l : Bytes) → bears kind name l ≡ true → chain_of (name_of l) ≡ chain_of name
only kind name l e = go (eqb (kind_of l) kind) e
  where
    go : (b : Bool) → (b && same (name_of l) name) ≡ true → chain_of (name_of l) ≡ chain_of name
    go true e = ap chain_of (same_true (name_of l) name e)
    go false e = absurd (false≢true e)

module _ {ls : List Bytes} {kind : ℕ} {name : Bytes} {n : ℕ} where
  walk_from : n ≤ length ls → (m at : ℕ) → m ≤ n → names kind (take n ls) name ≡ names kind (take m ls) name → at ≡ last_in ls (chain_of name) m
      → Walk ls kind name n at
  unfolding names
  walk_from there m at l same e = record {
    there = there;
    below = omega (arith, last-le ls (chain_of name) m);
    within = λ h. rw e (last-in ls (chain_of name) m (rw (← e) h));
    left = same ∙ rw e (last-same ls (chain_of name) (bears kind name) (only kind name) m (omega arith));
  }

  pub walk_start : (at : ℕ) → n ≤ length ls → at ≡ last_in ls (chain_of name) n → Walk ls kind name n at
  walk_start at there e = walk_from there n at (omega arith) refl e

  module _ {at : ℕ} (w : Walk ls kind name n at) where
    step : 0 < at → names kind (take at ls) name ≡ (names kind (take (at - 1) ls) name || bears kind name (line_in ls (at - 1)))
    unfolding names
    step h =
        let z : at ≡ suc (at - 1) = omega arith in
        ap (λ (x : ℕ). some (bears kind name) (take x ls)) z ∙ some_more (bears kind name) ls (at - 1) (omega (arith, w.there, w.below))

    pub walk-next : 0 < at → bears kind name (line_in ls (at - 1)) ≡ false
        → (next : ℕ) → next ≡ last_in ls (chain_of (name_of (line_in ls (at - 1)))) (at - 1) → Walk ls kind name n next
    walk-next h miss next e =
        walk_from w.there (at - 1) next (omega (arith, w.below))
        (w.left ∙ step h ∙ rw (miss, or-false (names kind (take (at - 1) ls) name)))
        (e ∙ rw (w.within h))

    pub walk-hit : 0 < at → bears kind name (line_in ls (at - 1)) ≡ true → true ≡ names kind (take n ls) name
    walk-hit h hit = sym (w.left ∙ step h ∙ rw (hit, or-true (names kind (take (at - 1) ls) name)))

    pub walk_end : at ≡ 0 → false ≡ names kind (take n ls) name
    unfolding names some
    walk_end e = sym (w.left ∙ rw e)

    pub walk-less : 0 < at → last_in ls (chain_of (name_of (line_in ls (at - 1)))) (at - 1) < at
    walk-less h = omega (arith, last-le ls (chain_of (name_of (line_in ls (at - 1)))) (at - 1))
