-- `plan::skip` meets its contract. The invariant: the bytes passed have no mark. The measure is the bytes left.
-- Assumes nothing.
use Rattle.std.proofs.Common.{◌+◌, ◌-◌}
use Rattle.plan.specs.Code.Marks.{Skipped}
use Rattle.plan.proofs.skip.Given as goal

abbrev pub invariant-loop-k : goal.invariant-loop-k
invariant-loop-k l = Skipped l.marks l.bytes l.at l.k

abbrev pub decreases-loop-k : goal.decreases-loop-k
decreases-loop-k l = l.bytes + 32 - l.k
