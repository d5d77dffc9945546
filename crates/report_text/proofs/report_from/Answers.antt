-- `report_text::report_from` meets its contract: what of the outcome's text is seen. Assumes nothing.
use Rattle.report_text.specs.Text.{report_text}
use Rattle.report_text.proofs.Outcomes.{seen_of}
use Rattle.report_text.proofs.report_from.Goals as goal

pub returns-clause-buffer : goal.returns-clause-buffer
returns-clause-buffer c =
    let x = c.args in
    seen_of (report_text x.description.now x.footer.now x.tree.now x.offsets.now) c.work_out-outcome.ensures c.write_outcome.ensures.0
