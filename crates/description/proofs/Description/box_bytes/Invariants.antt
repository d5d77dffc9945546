-- `Description::box_bytes` meets its contract. The loop's invariant: the sum so far is where dimension i starts.
-- Assumes nothing.
use Rattle.std.proofs.Common.{◌≡◌}
use Rattle.description.specs.Description.{side_start}
use Rattle.description.proofs.Description.box_bytes.Given as goal

abbrev pub invariant-loop-i : goal.invariant-loop-i
invariant-loop-i l = l.sum ≡ side_start l.self.kinds l.i
