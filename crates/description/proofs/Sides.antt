-- Where the dimensions stand in a box.
-- Assumes nothing.
use mathlib.Core.Path.{◌≡◌, refl, ap, ◌∙◌}
use mathlib.Core.Logic.{◌⊎◌, inl, inr}
use mathlib.Core.List.{List}
use Prim.Native.Nat.{ℕ, zero, suc, ◌+◌, ◌*◌, ◌≤◌, ◌<◌}
use native.Mathlib.Nat.{add-zero, zero-add, add_assoc, le_refl, eq-or-lt_of_le, le_of_suc-le-suc}
use native.Mathlib.Numerals.{add-one}
use native.Mathlib.Omega.{arith}
use Rattle.answers.specs.Runs.{over}
use Rattle.answers.proofs.Runs.{Each, over-ext, over-snoc}
use Rattle.description.specs.declared.Kind.{Kind}
use Rattle.description.specs.declared.Kind.TheVariants.{Int32, Int64, Float32, Float64, Uint64}
use Rattle.description.specs.declared.Dimension.{Dimension}
use Rattle.description.specs.Kinds.{range_bytes, end_bytes}
use Rattle.description.specs.Description.{kind_at, side_start}

pub range-bytes-most : (k : Kind) → (8 ≤ range_bytes k) × (range_bytes k ≤ 16)
range-bytes-most Int32 = (omega arith, omega arith)
range-bytes-most Int64 = (omega arith, omega arith)
range-bytes-most Float32 = (omega arith, omega arith)
range-bytes-most Float64 = (omega arith, omega arith)
range-bytes-most Uint64 = (omega arith, omega arith)

-- a range is two ends
pub two_ends : (k : Kind) → range_bytes k ≡ end_bytes k + end_bytes k
two_ends Int32 = refl
two_ends Int64 = refl
two_ends Float32 = refl
two_ends Float64 = refl
two_ends Uint64 = refl

module _ (kinds : List Dimension) where
  pub start_first : side_start kinds 0 ≡ 0
  unfolding side_start over
  start_first = refl

  -- the next dimension starts where this one ends
  pub start-next : (i : ℕ) → side_start kinds (i + 1) ≡ side_start kinds i + range_bytes (kind_at kinds i)
  unfolding side_start
  start-next i =
      rw (add-one i) (over-snoc ◌+◌ 0 add_assoc zero-add add-zero (λ j. range_bytes (kind_at kinds j)) 0 i ∙ rw zero-add)

  pub start-most : (i : ℕ) → (8 * i ≤ side_start kinds i) × (side_start kinds i ≤ 16 * i)
  start-most zero = rw start_first (omega arith, omega arith)
  start-most (suc i) =
      let p = start-most i in
      let q = range-bytes-most (kind_at kinds i) in
      let e = rw add-one at (start-next i) in
      rw e (omega arith, omega arith)

  -- every dimension before m ends where dimension m starts, or before
  pub start_up : (i m : ℕ) → i < m → side_start kinds i + range_bytes (kind_at kinds i) ≤ side_start kinds m
  start_up i zero h = absurd (omega arith)
  start_up i (suc m) h = rw (← add-one, start-next) (go (eq-or-lt_of_le (le_of_suc-le-suc h)) (start_up i m))
    where
      go : (i ≡ m) ⊎ (i < m) → (i < m → side_start kinds i + range_bytes (kind_at kinds i) ≤ side_start kinds m)
          → side_start kinds i + range_bytes (kind_at kinds i) ≤ side_start kinds m + range_bytes (kind_at kinds m)
      go (inl e) before = rw e (le_refl _)
      go (inr l) before = omega (arith, before l)

-- the kinds of the dimensions before decide it
pub start-same : (kinds kinds' : List Dimension) (i : ℕ) → Each (λ j. kind_at kinds j ≡ kind_at kinds' j) 0 i → side_start kinds i ≡ side_start kinds' i
unfolding side_start
start-same kinds kinds' i p = over-ext ◌+◌ 0 _ _ 0 i (λ j a b. ap range_bytes (p j a b))
