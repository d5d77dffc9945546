-- What does a buffer hold after a text was written at a place? Assumes nothing.
use Rattle.std.specs.Prelude.{ℕ, ◌+◌, cond, List, leb, length}
use Rattle.std.proofs.lemmas.List.Edits.{sets}

-- The text stands at that place, and the rest is untouched; where it does not all fit there, nothing is written.
unfoldable pub put : List ℕ → ℕ → List ℕ → List ℕ
put buffer at t = cond (leb (at + length t) (length buffer)) (sets buffer at t) buffer
