-- Two listings that differ only in folders that don't count.
-- Assumes nothing.
use Rattle.std.specs.Prelude.{ℕ, ◌<◌, min, ◌≡◌, Bool, not, ◌||◌, List, eqb, length, get_or}
use Rattle.answers.specs.Laid.{laid}
use Rattle.text.specs.Text.{Bytes, lines}
use Rattle.commits.specs.Records.{folder, kind_of, name_of}
use Rattle.commits.specs.Committed.{chosen, counts, line_in, Accepted, committed_lines, committed_answer}

-- a line that is no folder that doesn't count; and a listing's lines without those
unfoldable pub kept : List Bytes → Bytes → Bool
kept ls l = not (eqb (kind_of l) folder) || counts ls (name_of l)

abbrev pub settled : List Bytes → List Bytes
settled ls = chosen (kept ls) ls

-- the name at the line whose number stands at a place of a buffer
abbrev pub name_at : Bytes → List ℕ → ℕ → Bytes
name_at t out i = name_of (line_in (lines t) (get_or out i 0))

-- "the names at the lines found are equal, in order", with what two calls found and what they left in their buffers
pub record SameNames (a b : Bytes) (n m : ℕ) (out other : List ℕ) : Type 0 where
  pub found : n ≡ m
  pub names : (i : ℕ) → i < min n (length out) → name_at a out i ≡ name_at b other i

-- "Between two accepted listings that differ only in folders that don't count, asked with one t and equal room": what a call
-- found and left in its buffer, beside every other listing and every other buffer of that length
abbrev pub AlikeListings : Bytes → ℕ → ℕ → List ℕ → Type 0
AlikeListings a time found out =
    Accepted (lines a) → (b : Bytes) → Accepted (lines b) → settled (lines a) ≡ settled (lines b)
    → (other : List ℕ) → length out ≡ length other
    → SameNames a b found (committed_answer b time).found out (laid (committed_lines b time) other)
