-- `writer::write` meets its contract: what the checks answer, and the body where they refuse nothing. Assumes nothing.
use Rattle.std.proofs.Common.{sym, ◌∙◌, length}
use Rattle.written.proofs.Telling.{ok-clear, err-some}
use Rattle.writer.proofs.Checked.{same_number, to_fill, filled, kept}
use Rattle.writer.proofs.write.Goals as goal

pub returns-in_err-bytes-clause-buffer : goal.returns-in_err-bytes-clause-buffer
returns-in_err-bytes-clause-buffer c =
    let x = c.args in
    let same = same_number x.description x.tiles x.fanout x.leaves.now (length x.out.now) in
    kept x.description x.tiles x.fanout x.leaves.now x.out.now (λ e. err-some c.check.ensures c.in_err-bytes.was (same ∙ e))

pub fill-requires : goal.fill-requires
fill-requires c =
    let x = c.args in
    let same = same_number x.description x.tiles x.fanout x.leaves.now (length x.out.now) in
    to_fill x.description x.tiles x.fanout x.leaves.now x.out.now (sym same ∙ ok-clear c.check.ensures c.in_ok-bytes.was)

pub returns-clause-buffer : goal.returns-clause-buffer
returns-clause-buffer c =
    let x = c.args in
    let same = same_number x.description x.tiles x.fanout x.leaves.now (length x.out.now) in
    filled x.description x.tiles x.fanout x.leaves.now x.out.now (sym same ∙ ok-clear c.check.ensures c.in_ok-bytes.was) _ c.fill.ensures
