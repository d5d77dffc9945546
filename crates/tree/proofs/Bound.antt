-- How many boxes can a walk look at? Looking at every box of a level looks at no more than there is from that level
-- down; and all boxes of a tree are few, by a telescope: a level has at most (c + f - 1) / f boxes where the one below
-- it has c.
-- Assumes nothing.
use mathlib.Core.Path.{◌≡◌}
use mathlib.Core.Bool.{Bool, true, false, cond}
use Prim.Native.Nat.{ℕ, zero, suc, ◌+◌, ◌-◌, ◌*◌, ◌≤◌, ◌<◌}
use native.Mathlib.Nat.{add-zero, mul-le-mul_right}
use native.Mathlib.Omega.{arith}
use Rattle.answers.specs.Runs.{over, sum}
use Rattle.answers.proofs.Runs.{sum-le, sum-plus, sum_ones}
use Rattle.tree.specs.Shape.{up, boxes, children}
use Rattle.tree.specs.Walk.{looked}
use Rattle.tree.proofs.Counts.{up-tight, boxes_to, to-more, sum-children}

module _ (f n : ℕ) (meets : ℕ → ℕ → Bool) (pos : 0 < f) where
  look-le : (t : Bool) (s : ℕ) → cond t (1 + s) 1 ≤ 1 + s
  look-le true s = omega arith
  look-le false s = omega arith

  level-le : (j : ℕ) → sum (λ k. looked f n meets j k) 0 (boxes f n j) ≤ boxes_to f n j
  unfolding looked boxes over
  level-le zero = omega (arith, sum_ones 0 n)
  level-le (suc j) =
      let inside : ℕ → ℕ = λ k. sum (λ i. looked f n meets j i) (k * f) (children f n j k) in
      omega (
        arith,
        level-le j,
        to-more f n j,
        sum-le (λ k. looked f n meets (suc j) k) (λ k. 1 + inside k) 0 (boxes f n (suc j))
            (λ i a b. look-le (meets (suc j) i) (inside i)),
        sum-plus (λ k. 1) inside 0 (boxes f n (suc j)),
        sum_ones 0 (boxes f n (suc j)),
        sum-children (λ i. looked f n meets j i) f n j pos,
      )

-- the telescope, for a fanout of g + 1 and m + 1 tiles
telescope : (g m t c u j : ℕ) → t * g + c ≤ suc j * g + m * suc g + 1 → u * suc g < c + suc g
    → (t + u) * g + u ≤ suc (suc j) * g + m * suc g + 1
telescope g m t c u j h s = omega arith

telescope-first : (g m : ℕ) → suc m * g + suc m ≤ 1 * g + m * suc g + 1
telescope-first g m = omega arith

boxes-telescope : (g m j : ℕ) → boxes_to (suc g) (suc m) j * g + boxes (suc g) (suc m) j ≤ suc j * g + m * suc g + 1
unfolding boxes over
boxes-telescope g m zero = simp add-zero (telescope-first g m)
boxes-telescope g m (suc j) =
    rw (to-more (suc g) (suc m) j)
    (telescope g m (boxes_to (suc g) (suc m) j) (boxes (suc g) (suc m) j) (up (suc g) (boxes (suc g) (suc m) j)) j
    (boxes-telescope g m j) (up-tight (suc g) (boxes (suc g) (suc m) j) (omega arith)))

telescope-last : (g m j t l c : ℕ) → t * g + c ≤ suc j * g + m * suc g + 1 → c ≡ 1 → l * g ≤ t * g
    → l * g ≤ suc j * g + m * suc g
telescope-last g m j t l c a b d = omega arith

-- from the root, the only box at distance j
pub root-sum : (w : ℕ → ℕ) (c : ℕ) → c ≡ 1 → sum w 0 c ≡ w 0
unfolding over
root-sum w c h = rw h (omega arith)

pub looked-le-boxes : (f n : ℕ) (meets : ℕ → ℕ → Bool) (j : ℕ) → 0 < f → boxes f n j ≡ 1
    → looked f n meets j 0 ≤ boxes_to f n j
looked-le-boxes f n meets j pos one =
    omega (arith, level-le f n meets pos j, root-sum (λ k. looked f n meets j k) (boxes f n j) one)

-- the bound; L is j + 1
pub bound : (f n : ℕ) (meets : ℕ → ℕ → Bool) (j : ℕ) → 0 < f → 0 < n → boxes f n j ≡ 1
    → looked f n meets j 0 * (f - 1) ≤ suc j * (f - 1) + (n - 1) * f
bound zero n meets j pos some one = omega arith
bound (suc g) zero meets j pos some one = omega arith
bound (suc g) (suc m) meets j pos some one =
    let p : suc g - 1 ≡ g = omega arith in
    let q : suc m - 1 ≡ m = omega arith in
    rw (p, q)
    (telescope-last g m j (boxes_to (suc g) (suc m) j) (looked (suc g) (suc m) meets j 0) (boxes (suc g) (suc m) j)
    (boxes-telescope g m j) one
    (mul-le-mul_right g (looked-le-boxes (suc g) (suc m) meets j pos one)))
