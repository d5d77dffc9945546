-- `decimal::starts_well` meets its contract: each test of the code is one of the definition's. Assumes nothing.
use Rattle.std.proofs.Common.{arith, length, lt-ltb, le-ltb, eq-eqb, ne_eqb}
use Rattle.decimal.specs.Decimal.{starts_well}
use Rattle.decimal.proofs.starts_well.Goals as goal

pub returns-in-empty : goal.returns-in-empty
unfolding starts_well
returns-in-empty c = rw (le-ltb 0 (length c.args.text.now) (omega arith))

pub returns-in-len1 : goal.returns-in-len1
unfolding starts_well
returns-in-len1 c =
    let n = length c.args.text.now in
    rw (lt-ltb 0 n (omega arith), eq-eqb n 1 (omega arith))

pub returns-in-len1-up : goal.returns-in-len1-up
unfolding starts_well
returns-in-len1-up c =
    let n = length c.args.text.now in
    rw (lt-ltb 0 n (omega arith), ne_eqb n 1 (omega arith))
