-- `plan::check` meets its contract: what the list is refused with, and then the work buffer. Assumes nothing.
use Rattle.std.proofs.Common.{refl, sym, ◌∙◌}
use Rattle.std.proofs.lemmas.Result.{err_from_is_err_and}
use Rattle.answers.specs.Told.{number_of}
use Rattle.answers.proofs.Told.{goes_on, halts}
use Rattle.plan.proofs.check.Goals as goal

pub returns-in_err-list : goal.returns-in_err-list
returns-in_err-list c =
    let p = err_from_is_err_and c.from_residual.result c.from_residual.ensures.1 in
    rw (p.1, p.2) (halts refl _ c.in_err-list.was)

pub returns : goal.returns
unfolding number_of
returns c = rw (← c.eighth.ensures) (c.when.ensures ∙ sym (goes_on refl _ c.in_ok-list.was))
