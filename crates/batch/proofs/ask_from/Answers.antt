-- `batch::ask_from` meets its contract. What the query is lent is what is left of the buffer, by the laws of `Step.antt`.
-- Assumes nothing.
use Rattle.std.proofs.Common.{◌≡◌, ◌-◌, min, length, arith}
use Rattle.batch.proofs.Step.{step-used, step-buffer, step-promises}
use Rattle.batch.proofs.ask_from.Goals as goal

pub returns : goal.returns
returns c =
    let x = c.args in
    let told = c.query-answer.ensures.answer in
    let left = c.query-answer.ensures.buffer in
    let start : c.lesser-start.result ≡ min x.used (length x.out.now) = omega arith in
    let more : c.lesser-more.result ≡ min c.query-answer.result.found (length x.out.now - c.lesser-start.result) = omega arith in
    record {
      asked = step-used x.description x.tiles x.body.now x.window x.out.now x.used start told more;
      buffer = step-buffer x.description x.tiles x.body.now x.window x.out.now x.used start left;
      promises = step-promises x.description x.tiles x.body.now x.window x.out.now x.used start left told;
    }
