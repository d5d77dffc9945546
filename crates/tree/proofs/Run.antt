-- Does the walk as code runs it come to the walk's count and tiles? From any state, looking at a box adds its count to
-- the count, and stores its tiles after those that the buffer has.
-- Assumes nothing.
use mathlib.Core.Path.{◌≡◌, refl, ◌∙◌}
use mathlib.Core.Bool.{Bool, true, false, cond}
use mathlib.Core.List.{List, [], ◌∷◌}
use Prim.Native.Nat.{ℕ, zero, suc, ◌+◌, ◌*◌}
use native.Mathlib.Nat.{add-zero, add_assoc}
use lib.ListN.{length, length-append}
use lib.Seq.{sets}
use Rattle.answers.specs.Runs.{over, sum, join}
use Rattle.answers.proofs.Laid.{sets-append}
use Rattle.tree.specs.Shape.{children}
use Rattle.tree.specs.Walk.{looked, found}
use Rattle.tree.specs.Code.Run.{State, looked_once, found_tile, run, look}

-- a state after a further count of a and further tiles xs
abbrev pub after : State → ℕ → List ℕ → State
after s a xs = (s.0 + a, s.1 + length xs, sets s.2 s.1 xs)

pub run-after : (step : ℕ → State → State) (a : ℕ → ℕ) (b : ℕ → List ℕ)
    → ((i : ℕ) (s : State) → step i s ≡ after s (a i) (b i))
    → (k m : ℕ) (s : State) → run step k m s ≡ after s (sum a k m) (join b k m)
unfolding run over
run-after step a b p k zero s = simp add-zero
run-after step a b p k (suc m) s =
    run-after step a b p (suc k) m (step k s)
    ∙ rw (p k s) (simp (add_assoc, length-append, sets-append))

module _ (f n : ℕ) (meets : ℕ → ℕ → Bool) where
  pub look-after : (j k : ℕ) (s : State) → look f n meets j k s ≡ after s (looked f n meets j k) (found f n meets j k)
  unfolding look looked found
  look-after zero k s = go (meets zero k)
    where
      go : (t : Bool) → cond t (found_tile k (looked_once s)) (looked_once s) ≡ after s 1 (cond t (k ∷ []) [])
      go true = refl
      go false = simp add-zero
  look-after (suc j) k s =
      go (meets (suc j) k)
      (run-after (λ i t. look f n meets j i t) (λ i. looked f n meets j i) (λ i. found f n meets j i) (λ i t. look-after j i t)
      (k * f) (children f n j k) (looked_once s))
    where
      a : ℕ
      a = sum (λ i. looked f n meets j i) (k * f) (children f n j k)

      xs : List ℕ
      xs = join (λ i. found f n meets j i) (k * f) (children f n j k)

      r : State
      r = run (λ i t. look f n meets j i t) (k * f) (children f n j k) (looked_once s)

      go : (t : Bool) → r ≡ after (looked_once s) a xs → cond t r (looked_once s) ≡ after s (cond t (1 + a) 1) (cond t xs [])
      go true p = p ∙ simp add_assoc
      go false p = simp add-zero
