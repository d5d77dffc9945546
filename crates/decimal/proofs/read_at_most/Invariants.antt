-- `decimal::read_at_most` meets its contract. The invariant: what is left, read after the value so far, is what the whole text is
-- read as, and the value is at most the most. Assumes nothing.
use Rattle.std.proofs.Common.{◌≡◌, ◌≤◌, drop}
use Rattle.decimal.specs.Read.{read_number}
use Rattle.decimal.proofs.Steps.{read_from}
use Rattle.decimal.proofs.read_at_most.Given as goal

abbrev pub invariant-loop-byte : goal.invariant-loop-byte
invariant-loop-byte l =
    (l.value ≤ l.most) × (read_number l.most l.text ≡ read_from l.most l.value (drop l.byte-index l.text))
