-- What does a buffer hold after a text was written at a place, where it has the bytes from a first one on?
-- Assumes nothing.
use Rattle.std.specs.Prelude.{ℕ, ◌-◌, [], ◌∷◌, ◌++◌, drop}
use Rattle.std.proofs.lemmas.List.Edits.{sets}
use Rattle.decimal.specs.Decimal.{decimal}
use Rattle.text.specs.Text.{Bytes}

-- a number, and then a tab or a newline
abbrev pub field : ℕ → ℕ → Bytes
field n end = decimal n ++ (end ∷ [])

-- The bytes that fall into the buffer, which has those of the whole from byte `from` on: those before it and those past
-- its end are not stored.
unfoldable pub seen : ℕ → Bytes → ℕ → Bytes → Bytes
seen from out at t = sets out (at - from) (drop (from - at) t)
