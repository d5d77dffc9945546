-- What are the flat listing and the flat count? Neither asks of any box whether its parent meets, and neither is built
-- on the walk or on the other.
-- Assumes nothing.
use Rattle.std.specs.Prelude.{ℕ, zero, suc, ◌+◌, Bool, cond, List, [], ◌∷◌}
use Rattle.answers.specs.Runs.{sum}
use Rattle.tree.specs.Shape.{boxes, children, height}

-- Exactly the numbers from k on, m of them, whose test passes, rising.
unfoldable pub passing : (ℕ → Bool) → ℕ → ℕ → List ℕ
passing test k zero = []
passing test k (suc m) = cond (test k) (k ∷ passing test (suc k) m) (passing test (suc k) m)

-- The flat listing: exactly the tiles whose leaf meets, rising.
abbrev pub flat_listing : ℕ → (ℕ → ℕ → Bool) → List ℕ
flat_listing n meets = passing (meets zero) 0 n

module _ (f n : ℕ) (meets : ℕ → ℕ → Bool) where
  -- For each inner box, level by level, add its number of children if that box meets the query, and nothing if it
  -- doesn't; its parent isn't asked. Here for the inner boxes of the distances j to 1.
  unfoldable pub inner : ℕ → ℕ
  inner zero = 0
  inner (suc j) = sum (λ k. cond (meets (suc j) k) (children f n j k) 0) 0 (boxes f n (suc j)) + inner j

  -- Start at 1. An inner box is one on levels 1 to L - 1, so with L = 1 the count is 1.
  abbrev pub flat_count : ℕ
  flat_count = 1 + inner (height f n)
