-- `Description::check_kinds` meets its contract. Assumes nothing.
use Rattle.std.proofs.Common.{sym, ap, ◌∙◌}
use Rattle.answers.specs.Checks.{each}
use Rattle.answers.specs.Told.{number_of}
use Rattle.answers.proofs.Told.{passes-left, stops-left, done-left, exits}
use Rattle.description.proofs.Description.check_kinds.Invariants.{said}
use Rattle.description.proofs.Description.check_kinds.Goals as goal

pub returns-in_err-when : goal.returns-in_err-when
returns-in_err-when c =
    let a = rw c.is_float_of.ensures at c.when.ensures in
    let g = said c.args.both (number_of c.args.reason) c.args.self.kinds in
    exits _ _ c.from_residual.ensures.1
    (stops-left g _ _ c.loop-i-test.true a c.in_err-when.was ∙ sym c.loop-i.invariant ∙ ap (each g 0) c.sides_of-n.ensures)

pub loop-i-preserved : goal.loop-i-preserved
loop-i-preserved c =
    let a = rw c.is_float_of.ensures at c.when.ensures in
    let g = said c.args.both (number_of c.args.reason) c.args.self.kinds in
    c.loop-i.invariant ∙ passes-left g _ _ c.loop-i-test.true a c.in_ok-when.was

pub returns : goal.returns
returns c =
    let g = said c.args.both (number_of c.args.reason) c.args.self.kinds in
    done-left g _ _ c.loop-i-test.false ∙ sym c.loop-i.invariant ∙ ap (each g 0) c.sides_of-n.ensures
