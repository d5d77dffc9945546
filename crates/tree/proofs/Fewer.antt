-- Does a tree look at less whose boxes meet less? Where each box that meets has its namesake of another tree meet too, the walk
-- goes nowhere that the other's doesn't go, box by box from the leaves up (`fewer`): of either tree nothing else is asked. And
-- where in both trees a box that meets has a parent that meets, the leaves alone decide the tiles found (`same-tiles`).
-- Assumes nothing.
use mathlib.Core.Path.{◌≡◌, refl, sym, ◌∙◌}
use mathlib.Core.Bool.{Bool, true, false, cond, true≢false}
use Prim.Native.Nat.{ℕ, zero, suc, ◌+◌, ◌*◌, ◌≤◌, ◌<◌}
use native.Mathlib.Omega.{arith}
use Rattle.answers.specs.Runs.{sum}
use Rattle.answers.proofs.Runs.{Each, sum-le}
use Rattle.tree.specs.Shape.{boxes, children, height}
use Rattle.tree.specs.Walk.{looked, looked_number, found_tiles, Contained}
use Rattle.tree.specs.Flat.{passing}
use Rattle.tree.proofs.Counts.{child-there}
use Rattle.tree.proofs.Root.{height-one}
use Rattle.tree.proofs.Demand3.{listed}

module _ (f n : ℕ) (meets more : ℕ → ℕ → Bool) (top : ℕ)
    (implies : (j k : ℕ) → j ≤ top → k < boxes f n j → meets j k ≡ true → more j k ≡ true) where
  looks-less : (j k : ℕ) → j ≤ top → k < boxes f n j → looked f n meets j k ≤ looked f n more j k
  unfolding looked
  looks-less zero k h l = omega arith
  looks-less (suc j) k h l =
      go (meets (suc j) k) refl (more (suc j) k) refl
      (sum-le (λ i. looked f n meets j i) (λ i. looked f n more j i) (k * f) (children f n j k)
      (λ i x y. looks-less j i (omega arith) (child-there f n j k i x y)))
    where
      a : ℕ
      a = sum (λ i. looked f n meets j i) (k * f) (children f n j k)

      b : ℕ
      b = sum (λ i. looked f n more j i) (k * f) (children f n j k)

      go : (t : Bool) → meets (suc j) k ≡ t → (u : Bool) → more (suc j) k ≡ u → a ≤ b → cond t (1 + a) 1 ≤ cond u (1 + b) 1
      go true e true e' under = omega arith
      go true e false e' under = absurd (true≢false (sym (implies (suc j) k h l e) ∙ e'))
      go false e true e' under = omega arith
      go false e false e' under = omega arith

passing-same : (g h : ℕ → Bool) (k m : ℕ) → Each (λ i. g i ≡ h i) k m → passing g k m ≡ passing h k m
unfolding passing
passing-same g h k zero p = refl
passing-same g h k (suc m) p =
    rw (p k (omega arith) (omega arith), passing-same g h (suc k) m (λ i a b. p i (omega arith) (omega arith)))

module _ (f n : ℕ) (meets more : ℕ → ℕ → Bool) (hf : 1 < f) (hn : 0 < n) where
  pub fewer : ((j k : ℕ) → j ≤ height f n → k < boxes f n j → meets j k ≡ true → more j k ≡ true)
      → looked_number f n meets ≤ looked_number f n more
  fewer implies =
      looks-less f n meets more (height f n) implies (height f n) 0 (omega arith) (omega (arith, height-one f n hf hn))

  pub same-tiles : Contained f n meets (height f n) → Contained f n more (height f n)
      → ((k : ℕ) → k < n → meets 0 k ≡ more 0 k) → found_tiles f n meets ≡ found_tiles f n more
  same-tiles p q same =
      listed f n meets hf hn p
      ∙ passing-same (meets 0) (more 0) 0 n (λ k a b. same k (omega arith))
      ∙ sym (listed f n more hf hn q)
