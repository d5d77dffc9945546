-- A short buffer gets the first ones: a list laid over a buffer.
-- Assumes nothing.
use Rattle.std.specs.Prelude.{ℕ, List, ◌++◌, length, take, drop}

-- The buffer's first places hold the first of the list, as many as fit; the rest is untouched.
abbrev pub laid : List ℕ → List ℕ → List ℕ
laid xs buffer = take (length buffer) xs ++ drop (length xs) buffer
