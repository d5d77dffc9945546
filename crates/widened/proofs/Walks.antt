-- The walk goes by nothing but which boxes meet: of two trees whose boxes meet alike, level by level, the same is
-- looked at and found, whatever else the trees are.
-- Assumes nothing.
use mathlib.Core.Path.{◌≡◌, sym, ◌∙◌}
use mathlib.Core.Bool.{Bool}
use mathlib.Core.List.{[], ◌++◌}
use Prim.Native.Nat.{ℕ, zero, suc, ◌*◌, ◌≤◌, ◌<◌}
use native.Mathlib.Omega.{arith}
use Rattle.answers.proofs.Runs.{over-ext}
use Rattle.tree.specs.Shape.{boxes, children, height}
use Rattle.tree.specs.Walk.{found, looked_number, found_tiles}
use Rattle.tree.proofs.Counts.{child-there}
use Rattle.tree.proofs.Root.{height-one}
use Rattle.tree.proofs.Fewer.{fewer}

module _ (f n : ℕ) (meets other : ℕ → ℕ → Bool) (hf : 1 < f) (hn : 0 < n)
    (same : (j k : ℕ) → j ≤ height f n → k < boxes f n j → meets j k ≡ other j k) where
  pub same-looked : looked_number f n meets ≡ looked_number f n other
  same-looked =
      let least = fewer f n meets other hf hn (λ j k h l e. sym (same j k h l) ∙ e) in
      let most = fewer f n other meets hf hn (λ j k h l e. same j k h l ∙ e) in
      omega (arith, least, most)

  found-same : (j k : ℕ) → j ≤ height f n → k < boxes f n j → found f n meets j k ≡ found f n other j k
  unfolding found
  found-same zero k h l = rw (same zero k h l)
  found-same (suc j) k h l =
      rw (
        same (suc j) k h l,
        over-ext ◌++◌ [] (λ i. found f n meets j i) (λ i. found f n other j i) (k * f) (children f n j k)
            (λ i a b. found-same j i (omega arith) (child-there f n j k i a b)),
      )

  pub same-found : found_tiles f n meets ≡ found_tiles f n other
  same-found = found-same (height f n) 0 (omega arith) (omega (arith, height-one f n hf hn))
