-- The walk as code runs it, with one count and one buffer handed through. Nothing here is promised to a caller.
-- Assumes nothing.
use Rattle.std.specs.Prelude.{ℕ, zero, suc, ◌+◌, ◌*◌, Bool, cond, List, set}
use Rattle.tree.specs.Shape.{children}

-- What code hands through: the count, the number found, the buffer.
abbrev pub State : Type 0
State = ℕ × ℕ × List ℕ

-- Each box looked at counts one.
abbrev pub looked_once : State → State
looked_once s = (s.0 + 1, s.1, s.2)

-- A found tile goes to the buffer's next place, if the buffer has it: `set` past the end changes nothing.
abbrev pub found_tile : ℕ → State → State
found_tile k s = (s.0, s.1 + 1, set s.2 s.1 k)

-- A row: m boxes from k on, taken in rising order.
unfoldable pub run : (ℕ → State → State) → ℕ → ℕ → State → State
run step k zero s = s
run step k (suc m) s = run step (suc k) m (step k s)

-- Looking at one box.
module _ (f n : ℕ) (meets : ℕ → ℕ → Bool) where
  unfoldable pub look : ℕ → ℕ → State → State
  look zero k s = cond (meets zero k) (found_tile k (looked_once s)) (looked_once s)
  look (suc j) k s =
      cond (meets (suc j) k) (run (λ i t. look j i t) (k * f) (children f n j k) (looked_once s)) (looked_once s)
