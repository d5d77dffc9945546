-- `converter::convert` meets its contract: what is told of the length, then the room, and the body where neither
-- refuses.
-- Assumes nothing.
use mathlib.Core.Path.{◌∙◌}
use native.Mathlib.Omega.{arith}
use lib.ListN.{length}
use Rattle.answers.specs.Told.{number_of}
use Rattle.converter.proofs.Checked.{refused, kept, short, short-kept, told, filled, to_fill}
use Rattle.converter.proofs.convert.Goals as goal

pub returns-then-told-ne0-clause-answer : goal.returns-then-told-ne0-clause-answer
returns-then-told-ne0-clause-answer c =
    let x = c.args in
    refused x.description x.file_size x.footer.now x.body.now _ c.converted_length-told.ensures c.if-told-ne0.true (length x.out.now)

pub returns-then-told-ne0-clause-buffer : goal.returns-then-told-ne0-clause-buffer
returns-then-told-ne0-clause-buffer c =
    let x = c.args in
    kept x.description x.file_size x.footer.now x.body.now _ c.converted_length-told.ensures c.if-told-ne0.true x.out.now

pub returns-then-out-told-clause-answer : goal.returns-then-out-told-clause-answer
unfolding number_of
returns-then-out-told-clause-answer c =
    let x = c.args in
    rw c.number.ensures at c.answer.ensures ∙ short x.description x.file_size x.footer.now x.body.now _ c.converted_length-told.ensures c.if-told-ne0.false (length x.out.now) c.if-out-told.true

pub returns-then-out-told-clause-buffer : goal.returns-then-out-told-clause-buffer
returns-then-out-told-clause-buffer c =
    let x = c.args in
    short-kept x.description x.file_size x.footer.now x.body.now _ c.converted_length-told.ensures c.if-told-ne0.false x.out.now c.if-out-told.true

pub put_body-requires : goal.put_body-requires
put_body-requires c =
    let x = c.args in
    to_fill x.description x.file_size x.footer.now x.body.now _ c.converted_length-told.ensures c.if-told-ne0.false x.out.now (omega (arith, c.if-out-told.false))

pub returns-clause-answer : goal.returns-clause-answer
returns-clause-answer c =
    let x = c.args in
    told x.description x.file_size x.footer.now x.body.now _ c.converted_length-told.ensures c.if-told-ne0.false (length x.out.now) (omega (arith, c.if-out-told.false))

pub returns-clause-buffer : goal.returns-clause-buffer
returns-clause-buffer c =
    let x = c.args in
    c.put_body.ensures ∙ filled x.description x.file_size x.footer.now x.body.now _ c.converted_length-told.ensures c.if-told-ne0.false x.out.now (omega (arith, c.if-out-told.false))
