-- `converter::converted_length` meets its contract: opening's refusal, or the bytes of the shape. Assumes nothing.
use mathlib.Core.Path.{◌∙◌}
use Rattle.converter.proofs.Checked.{refused-length, told-length}
use Rattle.converter.proofs.converted_length.Goals as goal

pub returns-then-told-ne0 : goal.returns-then-told-ne0
returns-then-told-ne0 c =
    let x = c.args in
    c.answer.ensures ∙ refused-length x.description x.file_size x.footer.now x.body.now c.open_before-told.result c.open_before-told.ensures c.if-told-ne0.true

pub returns : goal.returns
returns c =
    let x = c.args in
    c.answer-2.ensures
    ∙ told-length x.description x.file_size x.footer.now x.body.now c.open_before-told.result c.open_before-told.ensures c.if-told-ne0.false
    c.box_bytes-wide.result c.shape_of-shape.result (c.box_bytes-wide.ensures ∙ rw c.widened.ensures) c.shape_of-shape.ensures
