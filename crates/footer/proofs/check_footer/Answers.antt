-- `footer::check_footer` meets its contract: the description, and then all the fields. Assumes nothing.
use Rattle.std.proofs.Common.{refl, sym, ◌∙◌}
use Rattle.answers.proofs.Checks.{go_on, halt, join-next, both-clear}
use Rattle.footer.proofs.Parts.{front-parts}
use Rattle.footer.proofs.check_footer.Goals as goal

pub returns-then-front-ne0 : goal.returns-then-front-ne0
returns-then-front-ne0 c =
    let e = join-next c.or-front.ensures (c.from.ensures ∙ c.check_limits.ensures) refl in
    e ∙ sym (front-parts _ _ _ _ ∙ halt _ _ (rw e at c.if-front-ne0.true))

pub check_fields-requires : goal.check_fields-requires
check_fields-requires c =
    let e = join-next c.or-front.ensures (c.from.ensures ∙ c.check_limits.ensures) refl in
    (both-clear _ _ (rw e at c.if-front-ne0.false)).0

pub returns : goal.returns
returns c =
    let e = join-next c.or-front.ensures (c.from.ensures ∙ c.check_limits.ensures) refl in
    c.from-2.ensures ∙ c.check_fields.ensures ∙ sym (front-parts _ _ _ _ ∙ go_on _ _ (rw e at c.if-front-ne0.false))
