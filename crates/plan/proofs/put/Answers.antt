-- `plan::put` meets its contract: both places are there, or neither is written. Assumes nothing.
use Rattle.plan.proofs.Steps.{put_some, put-none}
use Rattle.plan.proofs.put.Goals as goal

pub returns-then-k-out : goal.returns-then-k-out
returns-then-k-out c =
    let a = c.args in
    rw c.length.ensures (put_some a.out.now a.ranges a.range c.if-k-out.true)

pub returns-else-k-out : goal.returns-else-k-out
returns-else-k-out c =
    let a = c.args in
    put-none a.out.now a.ranges a.range c.if-k-out.false
