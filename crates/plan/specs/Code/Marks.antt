-- Nothing here is promised to a caller. Which tiles does a bitmap mark? Tile i has bit i % 8 of byte i / 8.
-- Assumes nothing.
use Rattle.std.specs.Prelude.{◌≡◌, ℕ, ◌+◌, ◌*◌, ◌/◌, ◌%◌, ◌^◌, ◌<◌, ◌≤◌, Bool, false, ◌||◌, List, ◌==◌, bit_or, slice_index, slice_set}
use Rattle.plan.specs.Plan.{occurs}

abbrev pub digit : ℕ → ℕ → Bool
digit x k = x / 2 ^ k % 2 == 1

unfoldable pub marked : List ℕ → ℕ → Bool
marked marks i = digit (slice_index marks (i / 8)) (i % 8)

-- with one more
unfoldable pub marking : List ℕ → ℕ → List ℕ
marking marks i = slice_set marks (i / 8) (bit_or (slice_index marks (i / 8)) (2 ^ (i % 8)))

-- the tiles below n that were marked or occur in the run
abbrev pub MarksRun : ℕ → List ℕ → List ℕ → List ℕ → Type 0
MarksRun n run old new = (i : ℕ) → i < n → marked new i ≡ (occurs run i || marked old i)

-- no byte from one place to before another has a mark
abbrev pub Unmarked : List ℕ → ℕ → ℕ → Type 0
Unmarked marks from to = (j : ℕ) → 8 * from ≤ j → j < 8 * to → marked marks j ≡ false

-- the place that is gone on from, where bytes without a mark are passed over
pub record Skipped (marks : List ℕ) (bytes at next : ℕ) : Type 0 where
  pub after : at ≤ next
  pub aligned : next % 8 ≡ at % 8
  pub within : next ≤ bytes + 7
  pub none : Unmarked marks at next

-- none of the first bytes has a mark
abbrev pub Cleared : ℕ → List ℕ → Type 0
Cleared bytes marks = (j : ℕ) → j < bytes → ◌≡◌ {A = ℕ} (slice_index marks j) 0
