-- The checks of a body's shape say 2, 13 and 14, and no other number.
-- Assumes nothing.
use mathlib.Core.Path.{◌≡◌}
use mathlib.Core.Bool.{false}
use mathlib.Core.List.{List}
use Prim.Native.Nat.{ℕ}
use lib.Dec.{eqb}
use Rattle.answers.specs.Refusals as refusals
use Rattle.answers.proofs.Others.{Other, next-other, last-other, check-other, each-other}
use Rattle.tree.specs.Shape.{levels}
use Rattle.rtree.specs.Body.{front_refusal, size_refusal, counts_refusal, shape_refusal}

module _ (m : ℕ) (some : eqb 0 m ≡ false) (bytes : eqb refusals.bytes m ≡ false) (fanout : eqb refusals.fanout m ≡ false)
    (leveled : eqb refusals.levels m ≡ false) where
  counts-other : (f n b : ℕ) (stored : ℕ → ℕ) → Other m (counts_refusal f n b stored)
  unfolding counts_refusal
  counts-other f n b stored = each-other m some _ 0 (levels f n) (λ l low high. search (check-other))

  pub shape-other : (n b : ℕ) (body : List ℕ) → Other m (shape_refusal n b body)
  unfolding shape_refusal front_refusal size_refusal
  shape-other n b body = search (next-other, check-other, last-other, counts-other)
