-- `replay::pair_length` meets its contract: a number has at most 20 digits, so that no sum wraps. Assumes nothing.
use native.Mathlib.Omega.{arith}
use Rattle.decimal.proofs.Written.{twenty-digits}
use Rattle.replay.proofs.pair_length.Goals as goal

pub overflow_add-result : goal.overflow_add-result
overflow_add-result c =
    let p = c.args.pair in
    omega (arith, twenty-digits p.found (omega arith), twenty-digits p.looked (omega arith))

pub overflow_add-result-2 : goal.overflow_add-result-2
overflow_add-result-2 c =
    let p = c.args.pair in
    omega (arith, twenty-digits p.found (omega arith), twenty-digits p.looked (omega arith))

pub returns : goal.returns
returns c =
    let p = c.args.pair in
    (omega arith, omega (arith, twenty-digits p.found (omega arith), twenty-digits p.looked (omega arith)))
