-- `footer::check_before_tiles` meets its contract: each check of the list in turn. Assumes nothing.
use Rattle.std.proofs.Common.{sym, ◌∙◌}
use Rattle.answers.specs.Told.{number_of}
use Rattle.answers.proofs.Told.{stops, passes, ends, exits}
use Rattle.footer.proofs.Parts.{before-listed}
use Rattle.footer.proofs.check_before_tiles.Goals as goal

pub returns-in_err-check_flag : goal.returns-in_err-check_flag
unfolding number_of
returns-in_err-check_flag c =
    let a = c.args in
    exits _ _ c.from_residual.ensures.1
    (stops c.check_flag.ensures _ c.in_err-check_flag.was ∙ before-listed a.entry a.description a.bytes.now a.dense c.requires.0)

pub returns-in_err-check_is : goal.returns-in_err-check_is
unfolding number_of
returns-in_err-check_is c =
    let a = c.args in
    exits _ _ c.from_residual-in_err-check_is.ensures.1
    (stops c.check_is.ensures _ c.in_err-check_is.was
    ∙ sym (passes c.check_flag.ensures _ c.in_ok-check_flag.was)
    ∙ before-listed a.entry a.description a.bytes.now a.dense c.requires.0)

pub returns-in_err-check_flag-2 : goal.returns-in_err-check_flag-2
unfolding number_of
returns-in_err-check_flag-2 c =
    let a = c.args in
    exits _ _ c.from_residual-in_err-check_flag-2.ensures.1
    (stops c.check_flag-2.ensures _ c.in_err-check_flag-2.was
    ∙ sym (passes c.check_flag.ensures _ c.in_ok-check_flag.was ∙ passes c.check_is.ensures _ c.in_ok-check_is.was)
    ∙ before-listed a.entry a.description a.bytes.now a.dense c.requires.0)

pub returns-in_err-check_is-2 : goal.returns-in_err-check_is-2
unfolding number_of
returns-in_err-check_is-2 c =
    let a = c.args in
    exits _ _ c.from_residual-in_err-check_is-2.ensures.1
    (stops c.check_is-2.ensures _ c.in_err-check_is-2.was
    ∙ sym (
    passes c.check_flag.ensures _ c.in_ok-check_flag.was
    ∙ passes c.check_is.ensures _ c.in_ok-check_is.was
    ∙ passes c.check_flag-2.ensures _ c.in_ok-check_flag-2.was
    )
    ∙ before-listed a.entry a.description a.bytes.now a.dense c.requires.0)

pub returns : goal.returns
unfolding number_of
returns c =
    let a = c.args in
    let domain = c.check_domain.ensures in
    domain
    ∙ sym (
    passes c.check_flag.ensures _ c.in_ok-check_flag.was
    ∙ passes c.check_is.ensures _ c.in_ok-check_is.was
    ∙ passes c.check_flag-2.ensures _ c.in_ok-check_flag-2.was
    ∙ passes c.check_is-2.ensures _ c.in_ok-check_is-2.was
    ∙ ends _ _ domain
    )
    ∙ before-listed a.entry a.description a.bytes.now a.dense c.requires.0
