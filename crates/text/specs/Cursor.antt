-- A text by places: where the piece that starts at one ends, which it is, and where the next one starts.
-- Assumes nothing.
use Rattle.std.specs.Prelude.{ℕ, ◌+◌, cond, ltb, length, take, drop}
use Rattle.text.specs.Text.{Bytes, piece_length}

-- where the piece that starts at a place ends: at the next separator, or with the text
abbrev pub end_from : ℕ → Bytes → ℕ → ℕ
end_from sep t at = at + piece_length sep (drop at t)

-- the piece; nothing past the end
abbrev pub piece_from : ℕ → Bytes → ℕ → Bytes
piece_from sep t at = take (piece_length sep (drop at t)) (drop at t)

-- past the separator that stands there, if one does: the end of the text has none
abbrev pub after : Bytes → ℕ → ℕ
after t end = cond (ltb end (length t)) (end + 1) end
