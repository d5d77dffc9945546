-- `tile_counts::open_null_counts` meets its contract: the footer's refusal before the body's. Assumes nothing.
use Rattle.std.proofs.Common.{◌∙◌, eq-eqb, ne_eqb}
use Rattle.answers.specs.Told.{told}
use Rattle.footer.specs.Answer.{checked_answer}
use Rattle.tile_counts.specs.Counts.{null_counts_refusal}
use Rattle.tile_counts.proofs.Counts.{told-first}
use Rattle.tile_counts.proofs.open_null_counts.Goals as goal

pub returns-then-checked-ne0 : goal.returns-then-checked-ne0
returns-then-checked-ne0 c =
    let a = c.args in
    let n = checked_answer a.description a.file_size a.footer.now in
    let some = rw c.check-checked.ensures at c.if-checked-ne0.true in
    rw c.check-checked.ensures
    (rw (ne_eqb n.number 0 some) at (told-first a.description a.file_size a.footer.now n.tiles (null_counts_refusal a.description a.file_size a.footer.now a.body.now)))

pub returns : goal.returns
unfolding told
returns c =
    let a = c.args in
    let n = checked_answer a.description a.file_size a.footer.now in
    let none = rw c.check-checked.ensures at c.if-checked-ne0.false in
    c.told.ensures
    ∙ rw (c.check_counts-counts.ensures, c.check-checked.ensures)
    (rw (eq-eqb n.number 0 none) at (told-first a.description a.file_size a.footer.now n.tiles (null_counts_refusal a.description a.file_size a.footer.now a.body.now)))
