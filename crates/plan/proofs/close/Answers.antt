-- `plan::close` meets its contract: the open range is written, or there is none. Assumes nothing.
use Rattle.plan.proofs.Steps.{close-some}
use Rattle.plan.proofs.close.Goals as goal

pub returns-in-Some : goal.returns-in-Some
returns-in-Some c =
    let a = c.args in
    close-some a.p c.in-Some.range a.out.now c.in-Some.is c.put.new.out c.put.ensures _ (rw c.length.ensures)
