-- `report_text::report` meets its contract: the outcome is written nowhere, for its length, and then to the buffer if it fits. Assumes nothing.
use mathlib.Core.Path.{◌∙◌}
use native.Mathlib.Omega.{arith}
use Rattle.decimal.proofs.Put.{put-short}
use Rattle.report_text.specs.Text.{report_text}
use Rattle.report_text.proofs.Outcomes.{counted, seen_of, written}
use Rattle.report_text.proofs.report.Goals as goal

pub returns-then-count-out-clause-value : goal.returns-then-count-out-clause-value
returns-then-count-out-clause-value c =
    let x = c.args in
    let text = report_text x.description.now x.footer.now x.tree.now x.offsets.now in
    let t = c.work_out-outcome.ensures in
    let n = counted text t c.write_outcome-count.ensures.0 in
    (n, seen_of text t c.write_outcome.ensures.0 ∙ written text x.out.now (omega (arith, n, c.if-count-out.true)))

pub returns-else-count-out-clause-value : goal.returns-else-count-out-clause-value
returns-else-count-out-clause-value c =
    let x = c.args in
    let text = report_text x.description.now x.footer.now x.tree.now x.offsets.now in
    let n = counted text c.work_out-outcome.ensures c.write_outcome-count.ensures.0 in
    (n, put-short x.out.now 0 text (omega (arith, n, c.if-count-out.false)))
