-- Which number do the bytes at a place of a byte string stand for, and which bytes stand for a number? Assumes nothing.
use Rattle.std.specs.Prelude.{ℕ, zero, suc, ◌+◌, ◌*◌, ◌/◌, ◌%◌, cond, List, [], ◌∷◌, leb, length, get_or}

-- The m bytes from the place `at` on, the lowest first. A byte past the end counts 0.
unfoldable pub little : List ℕ → ℕ → ℕ → ℕ
little s at zero = 0
little s at (suc m) = get_or s at 0 + 256 * little s (at + 1) m

-- Two numbers of m bytes each, one after the other, as a range's ends stand; each 0 where their bytes aren't all there.
unfoldable pub first_of_two : List ℕ → ℕ → ℕ → ℕ
first_of_two s at m = cond (leb (at + (m + m)) (length s)) (little s at m) 0

unfoldable pub second_of_two : List ℕ → ℕ → ℕ → ℕ
second_of_two s at m = cond (leb (at + (m + m)) (length s)) (little s (at + m) m) 0

-- The m bytes of a number, the lowest first.
unfoldable pub bytes_of : ℕ → ℕ → List ℕ
bytes_of zero x = []
bytes_of (suc m) x = x % 256 ∷ bytes_of m (x / 256)
