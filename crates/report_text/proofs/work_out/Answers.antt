-- `report_text::work_out` meets its contract: too long, or what comes of what the description file says. Assumes nothing.
use mathlib.Core.Path.{refl, sym, ◌∙◌}
use Rattle.answers.specs.Told.{told, number_of}
use Rattle.report_text.proofs.Outcomes.{renders-long, renders-bad, renders-asked}
use Rattle.report_text.proofs.work_out.Goals as goal

pub returns-then-any_long : goal.returns-then-any_long
returns-then-any_long c =
    let x = c.args in
    renders-long x.description.now x.footer.now x.tree.now x.offsets.now x.tiles.now (sym c.any_long.ensures ∙ c.if-any_long.true)

pub returns-in-Some : goal.returns-in-Some
returns-in-Some c =
    let x = c.args in
    renders-asked x.description.now x.footer.now x.tree.now x.offsets.now (sym c.any_long.ensures ∙ c.if-any_long.false) _
    (sym c.in-Some.is ∙ c.read_asked.ensures) c.open_and_query.ensures

pub returns-in-None : goal.returns-in-None
unfolding told number_of
returns-in-None c =
    let x = c.args in
    renders-bad x.description.now x.footer.now x.tree.now x.offsets.now (sym c.any_long.ensures ∙ c.if-any_long.false) x.tiles.now (c.from.ensures ∙ rw c.at.ensures refl)
    (sym c.in-None.is ∙ c.read_asked.ensures)
