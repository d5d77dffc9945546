-- `leaves::body_length` meets its contract: a refusal, or the bytes of the whole. Assumes nothing.
use Rattle.std.proofs.Common.{[], rules, eq-eqb, ne_eqb}
use Rattle.answers.proofs.Told.{told-err, ok-clear, err-some}
use Rattle.description.specs.Description.{bytes_of_box}
use Rattle.tree.proofs.Table.{shape-bytes}
use Rattle.rtree.proofs.Passed.{box-bytes-most}
use Rattle.written.specs.Writing.{length_answer_by, told_writing}
use Rattle.written.proofs.Tree.{sizes-clear}
use Rattle.written.proofs.Telling.{refused-told}
use Rattle.leaves.proofs.body_length.Goals as goal

pub returns-in_err-check_sizes : goal.returns-in_err-check_sizes
unfolding length_answer_by
returns-in_err-check_sizes c =
    let says = c.check_sizes.ensures in
    let is = c.in_err-check_sizes.was in
    refused-told _ _ c.from_residual.ensures.1 (told-err says is) (rw (ne_eqb _ 0 (err-some says is)) (search rules))

pub returns : goal.returns
unfolding length_answer_by told_writing
returns c =
    let x = c.args in
    let d = x.description in
    let clear = ok-clear c.check_sizes.ensures c.in_ok-check_sizes.was in
    let sizes = (sizes-clear d x.tiles x.fanout [] clear).1 in
    rw (c.shape_of-shape.ensures, c.box_bytes.ensures, shape-bytes sizes (bytes_of_box d) (box-bytes-most d), eq-eqb _ 0 clear) (search rules)
