-- `commits::chain_of` meets its contract. Assumes nothing.
use Rattle.std.proofs.Common.{arith, ◌∙◌}
use borrow.Author.Rules.{part_to_end}
use Rattle.commits.specs.Code.Index.{chain_of}
use Rattle.commits.proofs.Read.{hash-next, hash-end}
use Rattle.commits.proofs.chain_of.Goals as goal

pub loop-b-preserved : goal.loop-b-preserved
loop-b-preserved c =
    (omega arith, c.loop-b.invariant.1 ∙ hash-next c.loop-b.hash _ c.loop-b.b-index (omega arith))

pub returns : goal.returns
unfolding chain_of
returns c =
    let n = c.args.name.now in
    let whole = c.loop-b.invariant.1 ∙ hash-end c.loop-b.hash _ c.loop-b.b-index c.loop-b-test.false in
    let is = rw (part_to_end n c.saturating_sub.result, c.saturating_sub.ensures) at whole in
    (rw is, omega arith)
