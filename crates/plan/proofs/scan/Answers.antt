-- `plan::scan` meets its contract. The invariant (`Turn`): the bits of `word` are the marks from tile i to the end of
-- the eight bytes before `at`, and what is left of the plan at tile i is known. The measure falls by i where a tile is
-- met, and by the bytes left where eight are taken. Assumes nothing.
use Rattle.std.proofs.Common.{arith}
use Rattle.plan.proofs.Steps.{skip-turn, no_more, load, before-end, past_all, room-for-one}
use Rattle.plan.proofs.Steps.{next-turn}
use Rattle.plan.proofs.scan.Goals as goal

pub loop-word-preserved-then-word-eq0 : goal.loop-word-preserved-then-word-eq0
loop-word-preserved-then-word-eq0 c =
    load (skip-turn c.loop-word.invariant c.skip-at.result c.skip-at.ensures) c.if-word-eq0.true c.if-bytes-at.false
    c.type_inv.marks c.u64_at-word.result c.u64_at-word.ensures

pub overflow_add-i : goal.overflow_add-i
overflow_add-i c =
    let t = c.loop-word.invariant in
    omega (arith, before-end t c.if-word-eq0.false, t.within, t.enough, t.aligned)

pub visit-p-requires : goal.visit-p-requires
visit-p-requires c =
    let t = c.loop-word.invariant in
    (omega (arith, room-for-one t c.if-word-eq0.false c.if-tiles-i.false), t.reached.few)

pub loop-word-preserved : goal.loop-word-preserved
loop-word-preserved c =
    next-turn c.loop-word.invariant c.if-word-eq0.false c.if-tiles-i.false c.tile.result c.tile.ensures
    c.visit-p.result c.visit-p.new.out c.visit-p.ensures

pub returns-then-bytes-at : goal.returns-then-bytes-at
returns-then-bytes-at c =
    no_more (skip-turn c.loop-word.invariant c.skip-at.result c.skip-at.ensures) c.if-word-eq0.true
    c.if-bytes-at.true

pub returns-then-tiles-i : goal.returns-then-tiles-i
returns-then-tiles-i c = past_all c.loop-word.invariant c.if-word-eq0.false c.if-tiles-i.true
