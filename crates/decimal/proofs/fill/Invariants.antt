-- `decimal::fill` meets its contract. The invariant: writing the digits of the rest over what the buffer holds now is writing those
-- of the number over what it held at first, and the rest has as many as are left. Assumes nothing.
use Rattle.std.proofs.Common.{◌≡◌, ◌+◌, length}
use lib.Seq.{sets}
use Rattle.decimal.specs.Decimal.{decimal}
use Rattle.decimal.proofs.fill.Given as goal

abbrev pub invariant-loop-place : goal.invariant-loop-place
invariant-loop-place l =
    (l.place ≡ l.at + length (decimal l.rest)) × (sets l.out l.at (decimal l.rest) ≡ sets l.initial.out l.at (decimal l.n))
