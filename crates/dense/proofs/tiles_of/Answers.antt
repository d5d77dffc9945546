-- `dense::tiles_of` meets its contract.
-- Assumes nothing.
use Rattle.std.proofs.Common.{ap, ◌∙◌, arith}
use Rattle.dense.specs.Code.Spans.{capped}
use Rattle.dense.proofs.Accepting.{split-clear}
use Rattle.dense.proofs.Told.{told-tiles}
use Rattle.dense.proofs.Capping.{multiplied-more, multiplied-all}
use Rattle.dense.proofs.tiles_of.Goals as goal

pub tiles-along-requires : goal.tiles-along-requires
tiles-along-requires c = (split-clear _ _ _ (c.requires.1 c.loop-i.i c.loop-i-test.true)).some

pub loop-i-preserved : goal.loop-i-preserved
loop-i-preserved c =
    let e = c.of.ensures in
    multiplied-more _ _ _ _ _ _ c.loop-i.invariant c.loop-i-test.true
    (c.tiles-along.ensures ∙ rw (e.0, e.1) (ap capped (told-tiles _ _ _ (c.requires.1 c.loop-i.i c.loop-i-test.true))))
    (omega arith)

pub returns : goal.returns
returns c = multiplied-all _ _ _ _ c.loop-i.invariant c.loop-i-test.false
