-- `plan::visit` meets its contract, branch by branch. Assumes nothing.
use Rattle.std.proofs.Common.{sym, ◌∙◌}
use Rattle.plan.proofs.Steps.{visit-near, visit-far}
use Rattle.plan.proofs.visit.Goals as goal

pub returns-in-Some : goal.returns-in-Some
returns-in-Some c =
    let a = c.args in
    visit-near a.gap a.t a.p a.out.now c.requires.1 c.if-t.false c.in-Some.range (sym c.joined.ensures ∙ c.in-Some.is)

pub returns-in-None : goal.returns-in-None
returns-in-None c =
    let a = c.args in
    visit-far a.gap a.t a.p a.out.now c.requires.1 c.if-t.false (sym c.joined.ensures ∙ c.in-None.is)
    c.close.result c.close.new.out c.close.ensures
