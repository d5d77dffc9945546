-- `plan::set_mark` meets its contract: the shifted 1 stays in its byte. Assumes nothing.
use Rattle.std.proofs.Common.{◌%◌, one-mul, arith, shl_exact}
use Rattle.plan.specs.Code.Marks.{marking}
use Rattle.plan.proofs.set_mark.Goals as goal

pub returns : goal.returns
unfolding marking
returns c =
    let k = c.args.i % 8 in
    rw (shl_exact {a = 1} 1 k 8 (omega arith) (omega arith), one-mul)
