-- `replay::line_length` meets its contract: a number has at most 20 digits, so that no sum wraps. Assumes nothing.
use native.Mathlib.Omega.{arith}
use Rattle.decimal.proofs.Written.{twenty-digits}
use Rattle.replay.proofs.Writing.{verdict-short}
use Rattle.replay.proofs.line_length.Goals as goal

pub overflow_add-result : goal.overflow_add-result
overflow_add-result c = omega (arith, twenty-digits c.args.i (omega arith))

pub overflow_add-result-in-Some : goal.overflow_add-result-in-Some
overflow_add-result-in-Some c = omega (arith, twenty-digits c.args.i (omega arith))

pub overflow_add-result-in-Some-2 : goal.overflow_add-result-in-Some-2
overflow_add-result-in-Some-2 c = omega (arith, verdict-short c.agrees.result, twenty-digits c.args.i (omega arith))

pub overflow_add-result-in-Some-3 : goal.overflow_add-result-in-Some-3
overflow_add-result-in-Some-3 c = omega (arith, verdict-short c.agrees.result, twenty-digits c.args.i (omega arith))
