-- `footer::check_head` meets its contract: each check of the list in turn. Assumes nothing.
use Rattle.std.proofs.Common.{sym, ◌∙◌}
use Rattle.answers.specs.Told.{number_of}
use Rattle.answers.proofs.Told.{stops, passes, ends, exits}
use Rattle.footer.specs.Fields.{number_outside}
use Rattle.footer.proofs.check_head.Goals as goal

pub returns-in_err-when : goal.returns-in_err-when
unfolding number_of
returns-in_err-when c = exits _ _ c.from_residual.ensures.1 (stops c.when.ensures _ c.in_err-when.was)

pub returns-in_err-when-2 : goal.returns-in_err-when-2
unfolding number_of number_outside
returns-in_err-when-2 c =
    let version = rw (c.outside-unknown.ensures, c.u32_at.ensures) at c.when-2.ensures in
    exits _ _ c.from_residual-in_err-when-2.ensures.1
    (stops version _ c.in_err-when-2.was ∙ sym (passes c.when.ensures _ c.in_ok-when.was))

pub returns : goal.returns
unfolding number_of number_outside
returns c =
    let version = rw (c.outside-unknown.ensures, c.u32_at.ensures) at c.when-2.ensures in
    let name = c.check_number.ensures in
    name ∙ sym (passes c.when.ensures _ c.in_ok-when.was ∙ passes version _ c.in_ok-when-2.was ∙ ends _ _ name)
