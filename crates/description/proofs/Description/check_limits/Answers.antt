-- `Description::check_limits` meets its contract: it goes through the definition's checks in their order. Assumes nothing.
use Rattle.std.proofs.Common.{sym, ◌∙◌}
use Rattle.answers.specs.Told.{number_of}
use Rattle.answers.proofs.Told.{stops, passes, ends, exits}
use Rattle.description.specs.Description.{limits_refusal}
use Rattle.description.proofs.Description.check_limits.Goals as goal

pub returns-in_err-when : goal.returns-in_err-when
unfolding limits_refusal number_of
returns-in_err-when c =
    let a = rw c.outside-dimensions.ensures at c.when.ensures in
    exits _ _ c.from_residual.ensures.1 (stops a _ c.in_err-when.was)

pub returns-in_err-when-2 : goal.returns-in_err-when-2
unfolding limits_refusal number_of
returns-in_err-when-2 c =
    let a = rw c.outside-dimensions.ensures at c.when.ensures in
    let b = rw c.outside-fields.ensures at c.when-2.ensures in
    exits _ _ c.from_residual-in_err-when-2.ensures.1 (stops b _ c.in_err-when-2.was ∙ sym (passes a _ c.in_ok-when.was))

pub returns : goal.returns
unfolding limits_refusal number_of
returns c =
    let a = rw c.outside-dimensions.ensures at c.when.ensures in
    let b = rw c.outside-fields.ensures at c.when-2.ensures in
    let l = rw c.outside-capacity.ensures at c.when-3.ensures in
    l ∙ sym (passes a _ c.in_ok-when.was ∙ passes b _ c.in_ok-when-2.was ∙ ends _ _ l)
