-- `replay::outcome_of` meets its contract: too long, not read, refused, or compared. Assumes nothing.
use Rattle.replay.proofs.Reading.{bad-long, bad-read, bad-query, good-query}
use Rattle.replay.proofs.outcome_of.Goals as goal

pub returns-then-line-gt-MOST_BYTES : goal.returns-then-line-gt-MOST_BYTES
returns-then-line-gt-MOST_BYTES c =
    let x = c.args in
    bad-long x.description x.tiles x.body.now x.line.now c.if-line-gt-MOST_BYTES.true

pub returns-in_err-read : goal.returns-in_err-read
returns-in_err-read c =
    let x = c.args in
    rw c.from_residual.ensures (bad-read x.description x.tiles x.body.now x.line.now c.if-line-gt-MOST_BYTES.false c.in_err-read.ensures)

pub returns-then-answer-ne0 : goal.returns-then-answer-ne0
returns-then-answer-ne0 c =
    let x = c.args in
    bad-query x.description x.tiles x.body.now x.line.now c.if-line-gt-MOST_BYTES.false c.in_ok-read.ensures c.query-answer.ensures.answer c.if-answer-ne0.true

pub returns : goal.returns
returns c =
    let x = c.args in
    good-query x.description x.tiles x.body.now x.line.now c.if-line-gt-MOST_BYTES.false c.in_ok-read.ensures c.query-answer.ensures.answer c.if-answer-ne0.false
