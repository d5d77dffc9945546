-- `floats::F32Float::key` meets its contract: the magnitude on its side of the middle. Assumes nothing.
use lib.Ieee.{binary32}
use native.Mathlib.Omega.{arith}
use Rattle.order.proofs.Floats.{above-middle, below-middle}
use Rattle.floats.proofs.F32Float.key.Goals as goal

pub returns-then-p-lt2147483648 : goal.returns-then-p-lt2147483648
returns-then-p-lt2147483648 c = above-middle binary32 c.args.p c.if-p-lt2147483648.true

pub returns-else-p-lt2147483648 : goal.returns-else-p-lt2147483648
returns-else-p-lt2147483648 c = below-middle binary32 c.args.p c.if-p-lt2147483648.false (omega (arith, c.ranges.p.fits))
