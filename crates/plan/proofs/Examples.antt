-- Worked cases, by computation from the definitions: tiles that start at 0, 100 and 300 in a file of 350 bytes.
-- Assumes nothing.
use Rattle.std.proofs.Common.{◌≡◌, ℕ, zero, suc, List, [], ◌∷◌, refl}
use Rattle.answers.specs.Runs.{over}
use Rattle.plan.specs.declared.Range.{Range}
use Rattle.plan.specs.Plan.{range, occurs, before, grouped, planned, words, different}

tile : ℕ → Range
tile zero = range 0 100
tile (suc zero) = range 100 300
tile (suc (suc i)) = range 300 350

plan : ℕ → List ℕ → List ℕ
plan g run = words (planned g (occurs run) tile 3)

-- in any order, twice, and one that there isn't
two : plan 199 (2 ∷ 0 ∷ 7 ∷ 2 ∷ []) ≡ 0 ∷ 100 ∷ 300 ∷ 50 ∷ []
unfolding tile plan occurs before grouped words
two = refl

-- which are two different tiles
counted : different 3 (occurs (2 ∷ 0 ∷ 7 ∷ 2 ∷ [])) ≡ 2
unfolding occurs over
counted = refl

-- a gap as long as is allowed
one : plan 200 (2 ∷ 0 ∷ []) ≡ 0 ∷ 350 ∷ []
unfolding tile plan occurs before grouped words
one = refl

-- no gap at all
neighbours : plan 0 (1 ∷ 2 ∷ []) ≡ 100 ∷ 250 ∷ []
unfolding tile plan occurs before grouped words
neighbours = refl

none : plan 5 [] ≡ []
unfolding tile plan occurs before grouped words
none = refl

-- A tile without bytes neither joins two others, nor is it reached for.
hollow : ℕ → Range
hollow zero = range 0 10
hollow (suc zero) = range 20 20
hollow (suc (suc i)) = range 30 40

not-joined : words (planned 10 (occurs (0 ∷ 1 ∷ 2 ∷ [])) hollow 3) ≡ 0 ∷ 10 ∷ 30 ∷ 10 ∷ []
unfolding hollow occurs before grouped words
not-joined = refl

not-reached : words (planned 10 (occurs (0 ∷ 1 ∷ [])) hollow 3) ≡ 0 ∷ 10 ∷ []
unfolding hollow occurs before grouped words
not-reached = refl
