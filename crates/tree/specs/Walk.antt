-- What does the walk look at, and which tiles does it find? The looked-at number and the found tiles, each by itself.
-- The tree is abstract: box k of the level at distance j meets the query, or does not.
-- Assumes nothing.
use Rattle.std.specs.Prelude.{ℕ, zero, suc, ◌+◌, ◌*◌, ◌/◌, ◌≤◌, ◌<◌, ◌≡◌, Bool, true, cond, List, [], ◌∷◌}
use Rattle.answers.specs.Runs.{sum, join}
use Rattle.tree.specs.Shape.{boxes, children, height}

module _ (f n : ℕ) (meets : ℕ → ℕ → Bool) where
  -- A leaf, or a box that doesn't meet, counts 1; any other counts 1 plus what its children count.
  unfoldable pub looked : ℕ → ℕ → ℕ
  looked zero k = 1
  looked (suc j) k = cond (meets (suc j) k) (1 + sum (λ i. looked j i) (k * f) (children f n j k)) 1

  -- A box that meets hands over to its row of children, taken in rising order; a leaf that meets is a found tile.
  unfoldable pub found : ℕ → ℕ → List ℕ
  found zero k = cond (meets zero k) (k ∷ []) []
  found (suc j) k = cond (meets (suc j) k) (join (λ i. found j i) (k * f) (children f n j k)) []

  -- The looked-at number is the root's.
  abbrev pub looked_number : ℕ
  looked_number = looked (height f n) 0

  -- The walk looks at the root.
  abbrev pub found_tiles : List ℕ
  found_tiles = found (height f n) 0

-- Strictly rising, from a on and below b.
unfoldable pub Rising : ℕ → ℕ → List ℕ → Type 0
Rising a b [] = Unit {0}
Rising a b (x ∷ xs) = (a ≤ x) × (x < b) × Rising (suc x) b xs

-- What an accepted tree gives: below the root, at distance `top`, a box that meets has a parent that meets.
abbrev pub Contained : ℕ → ℕ → (ℕ → ℕ → Bool) → ℕ → Type 0
Contained f n meets top = (j k : ℕ) → j < top → k < boxes f n j → meets j k ≡ true → meets (suc j) (k / f) ≡ true
