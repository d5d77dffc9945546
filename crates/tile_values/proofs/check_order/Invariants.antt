-- `tile_values::check_order` meets its contract. The invariant: the values from i on decide. Assumes nothing.
use Rattle.answers.specs.Refusals.{reversed}
use Rattle.description.specs.Kinds.{end_bytes}
use Rattle.tile_values.specs.Values.{min_above}
use Rattle.tile_metadata.proofs.Turns.{Left}
use Rattle.tile_values.proofs.check_order.Given as goal

abbrev pub invariant-loop-i : goal.invariant-loop-i
invariant-loop-i l = Left (min_above l.kind l.mins l.maxes) reversed (end_bytes l.kind) l.n l.i
