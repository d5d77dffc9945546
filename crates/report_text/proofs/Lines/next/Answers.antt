-- `report_text::Lines::next` meets its contract: the line from that place is line k. Assumes nothing.
use mathlib.Core.Path.{◌∙◌}
use Rattle.text.proofs.Lines.{this-line, past-line}
use Rattle.report_text.proofs.Lines.next.Goals as goal

pub returns : goal.returns
returns c t k n =
    let is = rw n.same at c.piece_from-line.ensures in
    let after = rw n.same at c.after-self.ensures in
    (is ∙ this-line t k n.here, record { same = n.same; here = past-line t k n.here is after })
