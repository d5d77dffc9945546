-- `converter::convert_footer` meets its contract: what the footer's check tells, then the room, and the widened footer
-- where neither refuses. Assumes nothing.
use mathlib.Core.Path.{◌≡◌, ◌∙◌}
use native.Mathlib.Omega.{arith}
use lib.ListN.{length}
use Rattle.description.specs.Description.{bytes_of_box}
use Rattle.description.specs.Rules.{before}
use Rattle.footer.specs.Answer.{checked_answer_by}
use Rattle.rtree.proofs.Passed.{box-bytes-most}
use Rattle.widened.specs.Widened.{widened_description}
use Rattle.answers.specs.Told.{number_of}
use Rattle.converter.proofs.Footers.{footer-refused, footer-kept, clear, domain-is, footer-length, footer-short, footer-short-kept, footer-told, footer-filled}
use Rattle.converter.proofs.convert_footer.Goals as goal

pub returns-then-told-ne0-clause-answer : goal.returns-then-told-ne0-clause-answer
returns-then-told-ne0-clause-answer c =
    let x = c.args in
    let e : c.check_by-told.result ≡ checked_answer_by before x.description x.file_size x.footer.now =
    c.check_by-told.ensures ∙ rw (c.sparse.ensures, c.none-none.ensures) in
    c.answer.ensures ∙ footer-refused x.description x.file_size x.footer.now c.check_by-told.result e c.if-told-ne0.true (length x.out.now)

pub returns-then-told-ne0-clause-buffer : goal.returns-then-told-ne0-clause-buffer
returns-then-told-ne0-clause-buffer c =
    let x = c.args in
    let e : c.check_by-told.result ≡ checked_answer_by before x.description x.file_size x.footer.now =
    c.check_by-told.ensures ∙ rw (c.sparse.ensures, c.none-none.ensures) in
    footer-kept x.description x.file_size x.footer.now c.check_by-told.result e c.if-told-ne0.true x.out.now

pub returns-then-out-whole-clause-answer : goal.returns-then-out-whole-clause-answer
unfolding number_of
returns-then-out-whole-clause-answer c =
    let x = c.args in
    let e : c.check_by-told.result ≡ checked_answer_by before x.description x.file_size x.footer.now =
    c.check_by-told.ensures ∙ rw (c.sparse.ensures, c.none-none.ensures) in
    let wide : c.box_bytes-wide.result ≡ bytes_of_box (widened_description x.description) = c.box_bytes-wide.ensures ∙ rw c.widened.ensures in
    let whole =
    footer-length x.description x.file_size x.footer.now c.check_by-told.result e c.if-told-ne0.false c.box_bytes-old.result c.box_bytes-wide.result
    c.box_bytes-old.ensures wide in
    rw c.number.ensures at c.answer-then-out-whole.ensures ∙ footer-short x.description x.file_size x.footer.now c.check_by-told.result e c.if-told-ne0.false _ whole.1 (length x.out.now) c.if-out-whole.true

pub returns-then-out-whole-clause-buffer : goal.returns-then-out-whole-clause-buffer
returns-then-out-whole-clause-buffer c =
    let x = c.args in
    let e : c.check_by-told.result ≡ checked_answer_by before x.description x.file_size x.footer.now =
    c.check_by-told.ensures ∙ rw (c.sparse.ensures, c.none-none.ensures) in
    let wide : c.box_bytes-wide.result ≡ bytes_of_box (widened_description x.description) = c.box_bytes-wide.ensures ∙ rw c.widened.ensures in
    let whole =
    footer-length x.description x.file_size x.footer.now c.check_by-told.result e c.if-told-ne0.false c.box_bytes-old.result c.box_bytes-wide.result
    c.box_bytes-old.ensures wide in
    footer-short-kept x.description x.file_size x.footer.now c.check_by-told.result e c.if-told-ne0.false _ whole.1 x.out.now c.if-out-whole.true

pub put_footer-requires : goal.put_footer-requires
put_footer-requires c =
    let x = c.args in
    let e : c.check_by-told.result ≡ checked_answer_by before x.description x.file_size x.footer.now =
    c.check_by-told.ensures ∙ rw (c.sparse.ensures, c.none-none.ensures) in
    let wide : c.box_bytes-wide.result ≡ bytes_of_box (widened_description x.description) = c.box_bytes-wide.ensures ∙ rw c.widened.ensures in
    let whole =
    footer-length x.description x.file_size x.footer.now c.check_by-told.result e c.if-told-ne0.false c.box_bytes-old.result c.box_bytes-wide.result
    c.box_bytes-old.ensures wide in
    record {
      own = c.box_bytes-old.ensures;
      new = wide;
      starts = domain-is x.description x.file_size x.footer.now c.check_by-told.result e c.if-told-ne0.false;
      file = x.file_size;
      checked = clear x.description x.file_size x.footer.now c.check_by-told.result e c.if-told-ne0.false;
      room = omega (arith, whole, c.if-out-whole.false);
    }

pub returns-clause-answer : goal.returns-clause-answer
returns-clause-answer c =
    let x = c.args in
    let e : c.check_by-told.result ≡ checked_answer_by before x.description x.file_size x.footer.now =
    c.check_by-told.ensures ∙ rw (c.sparse.ensures, c.none-none.ensures) in
    let wide : c.box_bytes-wide.result ≡ bytes_of_box (widened_description x.description) = c.box_bytes-wide.ensures ∙ rw c.widened.ensures in
    let whole =
    footer-length x.description x.file_size x.footer.now c.check_by-told.result e c.if-told-ne0.false c.box_bytes-old.result c.box_bytes-wide.result
    c.box_bytes-old.ensures wide in
    c.answer-2.ensures ∙ footer-told x.description x.file_size x.footer.now c.check_by-told.result e c.if-told-ne0.false _ whole.1 (length x.out.now) c.if-out-whole.false

pub returns-clause-buffer : goal.returns-clause-buffer
returns-clause-buffer c =
    let x = c.args in
    let e : c.check_by-told.result ≡ checked_answer_by before x.description x.file_size x.footer.now =
    c.check_by-told.ensures ∙ rw (c.sparse.ensures, c.none-none.ensures) in
    let wide : c.box_bytes-wide.result ≡ bytes_of_box (widened_description x.description) = c.box_bytes-wide.ensures ∙ rw c.widened.ensures in
    let whole =
    footer-length x.description x.file_size x.footer.now c.check_by-told.result e c.if-told-ne0.false c.box_bytes-old.result c.box_bytes-wide.result
    c.box_bytes-old.ensures wide in
    footer-filled x.description x.file_size x.footer.now c.check_by-told.result e c.if-told-ne0.false _ whole.1 x.out.now _ c.if-out-whole.false c.put_footer.ensures

pub overflow_sub-whole : goal.overflow_sub-whole
overflow_sub-whole c =
    let x = c.args in
    let e : c.check_by-told.result ≡ checked_answer_by before x.description x.file_size x.footer.now =
    c.check_by-told.ensures ∙ rw (c.sparse.ensures, c.none-none.ensures) in
    let wide : c.box_bytes-wide.result ≡ bytes_of_box (widened_description x.description) = c.box_bytes-wide.ensures ∙ rw c.widened.ensures in
    let whole =
    footer-length x.description x.file_size x.footer.now c.check_by-told.result e c.if-told-ne0.false c.box_bytes-old.result c.box_bytes-wide.result
    c.box_bytes-old.ensures wide in
    whole.0

pub overflow_add-whole : goal.overflow_add-whole
overflow_add-whole c =
    let x = c.args in
    let e : c.check_by-told.result ≡ checked_answer_by before x.description x.file_size x.footer.now =
    c.check_by-told.ensures ∙ rw (c.sparse.ensures, c.none-none.ensures) in
    let wide : c.box_bytes-wide.result ≡ bytes_of_box (widened_description x.description) = c.box_bytes-wide.ensures ∙ rw c.widened.ensures in
    let whole =
    footer-length x.description x.file_size x.footer.now c.check_by-told.result e c.if-told-ne0.false c.box_bytes-old.result c.box_bytes-wide.result
    c.box_bytes-old.ensures wide in
    record { fits = omega (arith, whole.0, wide, box-bytes-most (widened_description x.description), c.well_formed) }
