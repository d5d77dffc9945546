-- `dense::found_of` meets its contract.
-- Assumes nothing.
use Rattle.std.proofs.Common.{sym, arith}
use Rattle.dense.proofs.Capping.{capped_small, multiplied-more, multiplied-all}
use Rattle.dense.proofs.found_of.Goals as goal

pub loop-k-preserved : goal.loop-k-preserved
loop-k-preserved c =
    multiplied-more _ _ _ _ _ _ c.loop-k.invariant c.loop-k-test.true
    (sym (capped_small _ (c.requires.1 c.loop-k.k c.loop-k-test.true))) (omega arith)

pub returns : goal.returns
returns c = multiplied-all _ _ _ _ c.loop-k.invariant c.loop-k-test.false
