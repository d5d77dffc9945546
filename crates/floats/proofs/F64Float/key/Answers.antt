-- `floats::F64Float::key` meets its contract: the magnitude on its side of the middle. Assumes nothing.
use lib.Ieee.{binary64}
use native.Mathlib.Omega.{arith}
use Rattle.order.proofs.Floats.{above-middle, below-middle}
use Rattle.floats.proofs.F64Float.key.Goals as goal

pub returns-then-p-lt9223372036854775808 : goal.returns-then-p-lt9223372036854775808
returns-then-p-lt9223372036854775808 c = above-middle binary64 c.args.p c.if-p-lt9223372036854775808.true

pub returns-else-p-lt9223372036854775808 : goal.returns-else-p-lt9223372036854775808
returns-else-p-lt9223372036854775808 c = below-middle binary64 c.args.p c.if-p-lt9223372036854775808.false (omega (arith, c.ranges.p.fits))
