-- What does each step of the code's walk come to: a leaf, an inner box, a box that does not meet, a turn of a row? The
-- code's `d - 1` and `k + 1` end here.
-- Assumes nothing.
use mathlib.Core.Path.{◌≡◌, refl}
use mathlib.Core.Bool.{Bool, true, false, cond}
use mathlib.Core.List.{List, [], ◌∷◌}
use Prim.Native.Nat.{ℕ, zero, suc, ◌+◌, ◌-◌, ◌*◌, ◌≤◌, ◌<◌}
use native.Mathlib.Numerals.{add-one}
use native.Mathlib.Omega.{arith}
use lib.ListN.{length, length-append}
use Rattle.answers.specs.Runs.{over, sum, join}
use Rattle.tree.specs.Shape.{children}
use Rattle.tree.specs.Walk.{looked, found}
use Rattle.tree.specs.Code.Run.{State, looked_once, found_tile, run, look}
use Rattle.tree.proofs.Run.{run-after, look-after}

pub run-turn : (step : ℕ → State → State) (k left : ℕ) (s : State) → 0 < left
    → run step k left s ≡ run step (k + 1) (left - 1) (step k s)
unfolding run
run-turn step k zero s h = absurd (omega arith)
run-turn step k (suc m) s h =
    let p : suc m - 1 ≡ m = omega arith in
    rw (add-one, p)

pub run_none : (step : ℕ → State → State) (k left : ℕ) (s : State) → left ≤ 0 → run step k left s ≡ s
unfolding run
run_none step k zero s h = refl
run_none step k (suc m) s h = absurd (omega arith)

pub run-one : (step : ℕ → State → State) (k : ℕ) (s : State) → run step k 1 s ≡ step k s
unfolding run
run-one step k s = refl

join-le : (b : ℕ → List ℕ) (a : ℕ → ℕ) → ((i : ℕ) → length (b i) ≤ a i) → (k m : ℕ)
    → length (join b k m) ≤ sum a k m
unfolding over
join-le b a p k zero = omega arith
join-le b a p k (suc m) = simp length-append (omega (arith, p k, join-le b a p (suc k) m))

module _ (f n : ℕ) (meets : ℕ → ℕ → Bool) where
  pub look-leaf : (d k : ℕ) (s : State) → d ≡ 0 → meets d k ≡ true → look f n meets d k s ≡ found_tile k (looked_once s)
  unfolding look
  look-leaf zero k s e m = rw m
  look-leaf (suc d) k s e m = absurd (omega arith)

  pub look-inner : (d k : ℕ) (s : State) → (d ≡ 0 → ⊥) → meets d k ≡ true
      → look f n meets d k s ≡ run (λ i t. look f n meets (d - 1) i t) (k * f) (children f n (d - 1) k) (looked_once s)
  unfolding look
  look-inner zero k s e m = absurd (e refl)
  look-inner (suc d) k s e m =
      let p : suc d - 1 ≡ d = omega arith in
      rw (m, p)

  pub look-miss : (d k : ℕ) (s : State) → meets d k ≡ false → look f n meets d k s ≡ looked_once s
  unfolding look
  look-miss zero k s m = rw m
  look-miss (suc d) k s m = rw m

  -- a count never falls, and a look adds one at least
  some-looked : (d k : ℕ) → 0 < looked f n meets d k
  unfolding looked
  some-looked zero k = omega arith
  some-looked (suc d) k = go (meets (suc d) k)
    where
      go : (t : Bool) → 0 < cond t (1 + sum (λ i. looked f n meets d i) (k * f) (children f n d k)) 1
      go true = omega arith
      go false = omega arith

  pub look-more : (d k : ℕ) (s : State) → (s.0 < (look f n meets d k s).0) × (s.1 ≤ (look f n meets d k s).1)
  look-more d k s = rw (look-after f n meets d k s) (omega (arith, some-looked d k), omega arith)

  pub run_more : (d k m : ℕ) (s : State)
      → (s.0 ≤ (run (λ i t. look f n meets d i t) k m s).0) × (s.1 ≤ (run (λ i t. look f n meets d i t) k m s).1)
  run_more d k m s =
      rw (run-after (λ i t. look f n meets d i t) (λ i. looked f n meets d i) (λ i. found f n meets d i)
      (λ i t. look-after f n meets d i t) k m s)
      (omega arith, omega arith)

  -- no more tiles are found than boxes are looked at
  pub found-le : (d k : ℕ) → length (found f n meets d k) ≤ looked f n meets d k
  unfolding looked found
  found-le zero k = go (meets zero k)
    where
      go : (t : Bool) → length (cond t (k ∷ []) []) ≤ 1
      go true = omega arith
      go false = omega arith
  found-le (suc d) k =
      go (meets (suc d) k)
      (join-le (λ i. found f n meets d i) (λ i. looked f n meets d i) (λ i. found-le d i) (k * f) (children f n d k))
    where
      a : ℕ
      a = sum (λ i. looked f n meets d i) (k * f) (children f n d k)

      xs : List ℕ
      xs = join (λ i. found f n meets d i) (k * f) (children f n d k)

      go : (t : Bool) → length xs ≤ a → length (cond t xs []) ≤ cond t (1 + a) 1
      go true h = omega arith
      go false h = omega arith
