-- `windows::check_side` meets its contract: the kind, and then what is told of the range. Assumes nothing.
use Rattle.std.proofs.Common.{sym, ◌∙◌}
use Rattle.answers.specs.Told.{number_of}
use Rattle.answers.proofs.Told.{stops, passes, ends, exits}
use Rattle.description.proofs.Datatypes.{compared}
use Rattle.boxes.specs.Windows.{side_refusal}
use Rattle.windows.proofs.check_side.Goals as goal

pub returns-in_err-when : goal.returns-in_err-when
unfolding side_refusal number_of
returns-in_err-when c =
    let kind = rw (c.ne.ensures, compared, c.kind.ensures) at c.when.ensures in
    exits _ _ c.from_residual.ensures.1 (stops kind _ c.in_err-when.was)

pub returns : goal.returns
unfolding side_refusal number_of
returns c =
    let kind = rw (c.ne.ensures, compared, c.kind.ensures) at c.when.ensures in
    let range = rw c.of.ensures at c.asked.ensures in
    range ∙ sym (passes kind _ c.in_ok-when.was ∙ ends _ _ range)
