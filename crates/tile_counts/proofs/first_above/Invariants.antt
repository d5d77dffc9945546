-- `tile_counts::first_above` meets its contract. The invariant: the counts from i on decide. Assumes nothing.
use lib.Dec.{ltb}
use Rattle.answers.specs.Refusals.{null_count}
use Rattle.footer.specs.Answer.{cells_of}
use Rattle.lists.specs.Lists.{entry}
use Rattle.tile_metadata.proofs.Turns.{Left}
use Rattle.tile_counts.proofs.first_above.Given as goal

abbrev pub invariant-loop-i : goal.invariant-loop-i
invariant-loop-i l =
    Left (λ j. ltb (cells_of l.tiles l.last_cells l.capacity j) (entry l.body j)) null_count 8 l.tiles l.i
