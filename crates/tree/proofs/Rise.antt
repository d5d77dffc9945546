-- Do the found tiles rise, and lie below n, whatever meets? What is found below box k lies from the first tile below it
-- on and before the first tile below box k + 1.
-- Assumes nothing.
use mathlib.Core.Bool.{Bool, true, false, cond}
use mathlib.Core.List.{List, [], ◌∷◌, ◌++◌}
use Prim.Native.Nat.{ℕ, zero, suc, ◌+◌, ◌-◌, ◌*◌, ◌≤◌, ◌<◌, min}
use native.Mathlib.Nat.{suc-add, add-suc, mul-le-mul_right}
use native.Mathlib.Omega.{arith}
use lib.ListN.{length}
use Rattle.answers.specs.Runs.{over, join}
use Rattle.answers.proofs.Runs.{Each}
use Rattle.tree.specs.Shape.{boxes, children}
use Rattle.tree.specs.Walk.{found, Rising}
use Rattle.tree.proofs.Counts.{child-there}

rising-wider : (a b c d : ℕ) (xs : List ℕ) → a ≤ b → c ≤ d → Rising b c xs → Rising a d xs
unfolding Rising
rising-wider a b c d [] h k r = tt
rising-wider a b c d (x ∷ xs) h k r = (omega arith, omega arith, rising-wider (suc x) (suc x) c d xs (omega arith) k r.2)

rising-append : (a b c d : ℕ) (xs ys : List ℕ) → a ≤ c → b ≤ c → b ≤ d → Rising a b xs → Rising c d ys
    → Rising a d (xs ++ ys)
unfolding Rising
rising-append a b c d [] ys h k l r s = rising-wider a c d d ys h (omega arith) s
rising-append a b c d (x ∷ xs) ys h k l r s =
    (omega arith, omega arith, rising-append (suc x) b c d xs ys (omega arith) k l r.2 s)

-- the first tile below box k of the level at distance j
first_tile : ℕ → ℕ → ℕ → ℕ
first_tile f zero k = k
first_tile f (suc j) k = first_tile f j (k * f)

first-tile-mono : (f j a b : ℕ) → a ≤ b → first_tile f j a ≤ first_tile f j b
unfolding first_tile
first-tile-mono f zero a b h = h
first-tile-mono f (suc j) a b h = first-tile-mono f j (a * f) (b * f) (mul-le-mul_right f h)

module _ (f n : ℕ) (meets : ℕ → ℕ → Bool) where
  In : (j k : ℕ) → Type 0
  In j k = Rising (first_tile f j k) (min n (first_tile f j (suc k))) (found f n meets j k)

  -- a row
  rising-row : (j k m : ℕ) → Each (λ i. In j i) k m
      → Rising (first_tile f j k) (min n (first_tile f j (k + m))) (join (λ i. found f n meets j i) k m)
  unfolding over Rising In
  rising-row j k zero p = tt
  rising-row j k (suc m) p =
      rw (add-suc k m, ← (suc-add k m))
      (rising-append (first_tile f j k) (min n (first_tile f j (suc k))) (first_tile f j (suc k)) (min n (first_tile f j (suc k + m)))
      (found f n meets j k) (join (λ i. found f n meets j i) (suc k) m)
      (first-tile-mono f j k (suc k) (omega arith)) (omega arith)
      (omega (arith, first-tile-mono f j (suc k) (suc k + m) (omega arith)))
      (p k (omega arith) (omega arith))
      (rising-row j (suc k) m (λ i a b. p i (omega arith) (omega arith))))

  rising-box : (j k : ℕ) → k < boxes f n j → In j k
  unfolding In Rising found boxes first_tile children
  rising-box zero k h = go (meets zero k)
    where
      go : (t : Bool) → Rising k (min n (suc k)) (cond t (k ∷ []) [])
      go true = (omega arith, omega arith, tt)
      go false = tt
  rising-box (suc j) k h =
      go (meets (suc j) k) (rising-row j (k * f) (children f n j k) (λ i a b. rising-box j i (child-there f n j k i a b)))
    where
      xs : List ℕ
      xs = join (λ i. found f n meets j i) (k * f) (children f n j k)

      from : ℕ
      from = first_tile f j (k * f)

      to : ℕ
      to = first_tile f j (k * f + children f n j k)

      go : (t : Bool) → Rising from (min n to) xs → Rising from (min n (first_tile f j (suc k * f))) (cond t xs [])
      go true r =
          rising-wider from from (min n to) (min n (first_tile f j (suc k * f))) xs (omega arith)
          (omega (arith, first-tile-mono f j (k * f + children f n j k) (suc k * f) (omega arith))) r
      go false r = tt

  pub rising : (j k : ℕ) → k < boxes f n j → Rising 0 n (found f n meets j k)
  unfolding In
  rising j k h =
      rising-wider 0 (first_tile f j k) (min n (first_tile f j (suc k))) n (found f n meets j k) (omega arith) (omega arith)
      (rising-box j k h)

pub rising-length : (a b : ℕ) (xs : List ℕ) → Rising a b xs → length xs ≤ b - a
unfolding Rising
rising-length a b [] r = omega arith
rising-length a b (x ∷ xs) r = omega (arith, rising-length (suc x) b xs r.2)
