-- `text::piece_end` meets its contract. The invariant: the piece ends where the rest of it does. Assumes nothing.
use Rattle.std.proofs.Common.{◌≡◌, ◌+◌, drop}
use Rattle.text.specs.Text.{piece_length}
use Rattle.text.proofs.piece_end.Given as goal

abbrev pub invariant-loop-end : goal.invariant-loop-end
invariant-loop-end l = l.from + piece_length l.separator (drop l.from l.text) ≡ l.end + piece_length l.separator (drop l.end l.text)
