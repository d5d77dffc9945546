-- `tile_values::first_nan` meets its contract. The invariant: the values from i on decide. Assumes nothing.
use Rattle.answers.specs.Refusals.{not_a_number}
use Rattle.description.specs.Kinds.{end_bytes, is_nan}
use Rattle.tile_values.specs.Values.{pattern}
use Rattle.tile_metadata.proofs.Turns.{Left}
use Rattle.tile_values.proofs.first_nan.Given as goal

abbrev pub invariant-loop-i : goal.invariant-loop-i
invariant-loop-i l =
    Left (λ j. is_nan l.kind (pattern l.kind l.body j)) not_a_number (end_bytes l.kind) l.n l.i
