-- What is told of each tile of a run?
-- Assumes nothing.
use Rattle.std.specs.Prelude.{ℕ, ◌/◌, min, List, [], ◌∷◌, length, get_or}
use Rattle.answers.specs.Laid.{laid}
use Rattle.answers.specs.Runs.{join}
use Rattle.lists.specs.Offsets.{offset_of, extent_of}
use Rattle.footer.specs.Answer.{cells_of}

-- So many numbers of each tile, in the run's order, of as many tiles as fit whole; the rest of the buffer is untouched.
abbrev pub told_of : ℕ → (ℕ → List ℕ) → List ℕ → List ℕ → List ℕ
told_of width tell run out = laid (join (λ k. tell (get_or run k 0)) 0 (min (length run) (length out / width))) out

-- offset and extent, both 0 for a number that isn't below n
abbrev pub extents_told : ℕ → ℕ → List ℕ → List ℕ → List ℕ → List ℕ
extents_told n S s = told_of 2 (λ i. offset_of n s i ∷ extent_of n S s i ∷ [])

-- the cells, 0 for a number that isn't below n
abbrev pub cells_told : ℕ → ℕ → ℕ → List ℕ → List ℕ → List ℕ
cells_told n last capacity = told_of 1 (λ i. cells_of n last capacity i ∷ [])
