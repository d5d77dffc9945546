-- Do the walk's count and its tiles come to the flat ones? Where a box that meets has a parent that meets, the children
-- of a box that doesn't meet don't either: each counts one, and none of them finds a tile. So level by level the sums
-- and the joins over all boxes are passing of the flat count and of the flat listing.
-- Assumes nothing.
use mathlib.Core.Path.{◌≡◌, refl, sym, ◌∙◌}
use mathlib.Core.Bool.{Bool, true, false, cond}
use mathlib.Core.List.{List, [], ◌∷◌, ◌++◌, append_assoc, append-nil}
use Prim.Native.Nat.{ℕ, zero, suc, ◌+◌, ◌*◌, ◌/◌, ◌≤◌, ◌<◌}
use native.Mathlib.Omega.{arith}
use Rattle.answers.specs.Runs.{over, sum, join}
use Rattle.answers.proofs.Runs.{Each, over-ext, over-unit, sum-plus, sum_ones}
use Rattle.tree.specs.Shape.{boxes, children}
use Rattle.tree.specs.Walk.{looked, found, Contained}
use Rattle.tree.specs.Flat.{passing, flat_listing, inner}
use Rattle.tree.proofs.Counts.{child-there, child-parent, sum-children, join-children, count-children}
use Rattle.tree.proofs.Bound.{root-sum}

-- the leaves that meet, each joined on, are the flat listing
leaves-passing : (test : ℕ → Bool) (k m : ℕ) → join (λ i. cond (test i) (i ∷ []) []) k m ≡ passing test k m
unfolding over passing
leaves-passing test k zero = refl
leaves-passing test k (suc m) = rw (leaves-passing test (suc k) m) (go (test k))
  where
    go : (t : Bool) → cond t (k ∷ []) [] ++ passing test (suc k) m ≡ cond t (k ∷ passing test (suc k) m) (passing test (suc k) m)
    go true = refl
    go false = refl

root-join : (w : ℕ → List ℕ) (c : ℕ) → c ≡ 1 → join w 0 c ≡ w 0
unfolding over
root-join w c h = rw h (append-nil (w 0))

-- a box that does not meet counts one and finds none
module _ (f n : ℕ) (meets : ℕ → ℕ → Bool) where
  missed-one : (j k : ℕ) → meets j k ≡ false → looked f n meets j k ≡ 1
  unfolding looked
  missed-one zero k h = refl
  missed-one (suc j) k h = rw h

  missed-none : (j k : ℕ) → meets j k ≡ false → found f n meets j k ≡ []
  unfolding found
  missed-none zero k h = rw h
  missed-none (suc j) k h = rw h

module _ (f n : ℕ) (meets : ℕ → ℕ → Bool) (top : ℕ) (pos : 0 < f) (inside : Contained f n meets top) where
  children-miss : (j k : ℕ) → j < top → meets (suc j) k ≡ false → Each (λ i. meets j i ≡ false) (k * f) (children f n j k)
  children-miss j k h m i a b = go (meets j i) refl
    where
      go : (t : Bool) → meets j i ≡ t → meets j i ≡ false
      go true e =
          let p : meets (suc j) (i / f) ≡ true = inside j i h (child-there f n j k i a b) e in
          let q : i / f ≡ k = child-parent f n j k i a b in
          cc
      go false e = e

  count-box : (j k : ℕ) → j < top
      → looked f n meets (suc j) k + children f n j k
      ≡ (1 + sum (λ i. looked f n meets j i) (k * f) (children f n j k)) + cond (meets (suc j) k) (children f n j k) 0
  unfolding looked
  count-box j k h = go (meets (suc j) k) refl
    where
      go : (t : Bool) → meets (suc j) k ≡ t
          → cond t (1 + sum (λ i. looked f n meets j i) (k * f) (children f n j k)) 1 + children f n j k
          ≡ (1 + sum (λ i. looked f n meets j i) (k * f) (children f n j k)) + cond t (children f n j k) 0
      go true e = refl
      go false e =
          omega (
            arith,
            over-ext ◌+◌ 0 (λ i. looked f n meets j i) (λ i. 1) (k * f) (children f n j k)
                (λ i a b. missed-one f n meets j i (children-miss j k h e i a b)),
            sum_ones (k * f) (children f n j k),
          )

  count-level : (j : ℕ) → j ≤ top → sum (λ k. looked f n meets j k) 0 (boxes f n j) ≡ boxes f n j + inner f n meets j
  unfolding looked boxes inner
  count-level zero h = omega (arith, sum_ones 0 n)
  count-level (suc j) h =
      let m : ℕ = boxes f n (suc j) in
      let a : ℕ → ℕ = λ k. looked f n meets (suc j) k in
      let b : ℕ → ℕ = λ k. children f n j k in
      let c : ℕ → ℕ = λ k. sum (λ i. looked f n meets j i) (k * f) (children f n j k) in
      let d : ℕ → ℕ = λ k. cond (meets (suc j) k) (children f n j k) 0 in
      omega (
        arith,
        count-level j (omega arith),
        over-ext ◌+◌ 0 (λ k. a k + b k) (λ k. (1 + c k) + d k) 0 m (λ k x y. count-box j k h),
        sum-plus a b 0 m,
        sum-plus (λ k. 1 + c k) d 0 m,
        sum-plus (λ k. 1) c 0 m,
        sum_ones 0 m,
        sum-children (λ i. looked f n meets j i) f n j pos,
        count-children f n j pos,
      )

  find-box : (j k : ℕ) → j < top → found f n meets (suc j) k ≡ join (λ i. found f n meets j i) (k * f) (children f n j k)
  unfolding found
  find-box j k h = go (meets (suc j) k) refl
    where
      xs : List ℕ
      xs = join (λ i. found f n meets j i) (k * f) (children f n j k)

      go : (t : Bool) → meets (suc j) k ≡ t → cond t xs [] ≡ xs
      go true e = refl
      go false e =
          sym (over-unit ◌++◌ [] append_assoc (λ a. refl) append-nil (λ i. found f n meets j i) (k * f) (children f n j k)
          (λ i a b. missed-none f n meets j i (children-miss j k h e i a b)))

  find-level : (j : ℕ) → j ≤ top → join (λ k. found f n meets j k) 0 (boxes f n j) ≡ flat_listing n meets
  unfolding found boxes
  find-level zero h = leaves-passing (meets zero) 0 n
  find-level (suc j) h =
      over-ext ◌++◌ [] (λ k. found f n meets (suc j) k) (λ k. join (λ i. found f n meets j i) (k * f) (children f n j k))
      0 (boxes f n (suc j)) (λ k a b. find-box j k h)
      ∙ join-children (λ i. found f n meets j i) f n j pos
      ∙ find-level j (omega arith)

  -- from the root, the only box at its distance
  pub flat-count : boxes f n top ≡ 1 → looked f n meets top 0 ≡ 1 + inner f n meets top
  flat-count one =
      omega (arith, count-level top (omega arith), root-sum (λ k. looked f n meets top k) (boxes f n top) one)

  pub flat-listing : boxes f n top ≡ 1 → found f n meets top 0 ≡ flat_listing n meets
  flat-listing one =
      sym (root-join (λ k. found f n meets top k) (boxes f n top) one) ∙ find-level top (omega arith)
