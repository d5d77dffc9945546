-- `dense::check_splits` meets its contract.
-- Assumes nothing.
use Rattle.std.proofs.Common.{sym, ◌∙◌}
use Rattle.answers.proofs.Told.{passes-left, stops-left, done-left, exits}
use Rattle.dense.proofs.check_splits.Invariants.{split-told}
use Rattle.dense.proofs.check_splits.Goals as goal

pub returns-in_err-check_split : goal.returns-in_err-check_split
returns-in_err-check_split c =
    let g = split-told c.args.sides c.args.extents in
    exits _ _ c.from_residual.ensures.1
    (stops-left g _ _ c.loop-i-test.true c.check_split.ensures c.in_err-check_split.was ∙ sym c.loop-i.invariant)

pub loop-i-preserved : goal.loop-i-preserved
loop-i-preserved c =
    let g = split-told c.args.sides c.args.extents in
    c.loop-i.invariant ∙ passes-left g _ _ c.loop-i-test.true c.check_split.ensures c.in_ok-check_split.was

pub returns : goal.returns
returns c =
    let g = split-told c.args.sides c.args.extents in
    done-left g _ _ c.loop-i-test.false ∙ sym c.loop-i.invariant
