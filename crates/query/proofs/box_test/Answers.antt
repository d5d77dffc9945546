-- `query::box_test` meets its contract. Where a check refuses, its refusal is answered; where none does, the box's bytes are there and the window has no NaN,
-- which is what the test asks. Both clauses follow by `refusing` and `answering` of `OneBox.antt`.
-- Assumes nothing.
use Rattle.answers.specs.Told.{told}
use Rattle.answers.proofs.Told.{told-err, ok-clear, refuses}
use Rattle.query.proofs.OneBox.{refusing, asked, answering}
use Rattle.query.proofs.box_test.Goals as goal

pub returns-in-Err : goal.returns-in-Err
unfolding told
returns-in-Err c =
    let x = c.args in
    let p = refusing x.description x.bytes.now x.window (told-err c.check_box_test.ensures c.in-Err.is) (refuses c.in-Err.e) in
    rw c.number.ensures (record { answer = p.0; read = p.1 })

pub test_box-requires : goal.test_box-requires
test_box-requires c =
    let x = c.args in
    asked x.description x.bytes.now x.window (ok-clear c.check_box_test.ensures c.in-Ok.is) c.of-asked.ensures.is c.of-asked.ensures.fitting

pub returns-in-Ok : goal.returns-in-Ok
returns-in-Ok c =
    let x = c.args in
    let p = answering x.description x.bytes.now x.window (ok-clear c.check_box_test.ensures c.in-Ok.is) c.of-asked.ensures.is c.of-asked.ensures.fitting c.test_box.ensures in
    record { answer = p.0; read = p.1 }
