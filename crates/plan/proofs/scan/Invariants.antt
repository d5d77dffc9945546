-- `plan::scan` meets its contract. The invariant (`Turn`): the bits of `word` are the marks from tile i to the end of
-- the eight bytes before `at`, and what is left of the plan at tile i is known. The measure falls by i where a tile is
-- met, and by the bytes left where eight are taken. Assumes nothing.
use Rattle.std.proofs.Common.{◌+◌, ◌-◌, ◌*◌}
use Rattle.plan.specs.Plan.{tile_bytes}
use Rattle.plan.proofs.Steps.{Turn}
use Rattle.plan.proofs.scan.Given as goal

abbrev pub invariant-loop-word : goal.invariant-loop-word
invariant-loop-word l =
    Turn l.gap l.tiles l.marks (tile_bytes l.tiles l.size l.body) l.initial.out l.out l.p l.bytes l.i l.at l.word

abbrev pub decreases-loop-word : goal.decreases-loop-word
decreases-loop-word l = 8 * (l.bytes + 8) - l.i + (l.bytes + 8 - l.at)
