-- The invariant of `dense::tiles_of`: what is multiplied so far and the dimensions to come make the whole, capped.
-- Assumes nothing.
use lib.ListN.{get_or}
use Rattle.boxes.specs.Boxes.{range_in}
use Rattle.dense.specs.Dense.{tiles_along}
use Rattle.dense.proofs.Capping.{Multiplied}
use Rattle.dense.proofs.tiles_of.Given as goal

abbrev pub invariant-loop-i : goal.invariant-loop-i
invariant-loop-i l = Multiplied (λ j. tiles_along (range_in l.sides j) (get_or l.extents j 0)) l.n l.tiles l.i
