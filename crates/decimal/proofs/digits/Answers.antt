-- `decimal::digits` meets its contract. The invariant: the digits counted so far, of which one is ahead, and those of the rest are
-- those of the number. The measure is the rest. Assumes nothing.
use native.Mathlib.Omega.{arith}
use Rattle.decimal.proofs.Written.{length-small, length_more, some-digit, twenty-digits}
use Rattle.decimal.proofs.digits.Goals as goal

pub overflow_add-count : goal.overflow_add-count
overflow_add-count c = omega (arith, twenty-digits c.args.n c.ranges.n.fits, some-digit c.loop-rest.rest)

pub loop-rest-preserved : goal.loop-rest-preserved
loop-rest-preserved c = omega (arith, length_more c.loop-rest.rest (omega arith))

pub returns : goal.returns
returns c = omega (arith, length-small c.loop-rest.rest (omega arith))
