-- `rows::check_row` meets its contract. The loop's invariant: the place is that of a box of the row, and the boxes before it said nothing (`RowAt`).
-- Assumes nothing.
use Prim.Native.Nat.{◌-◌}
use lib.ListN.{length}
use Rattle.description.specs.Description.{sides_of}
use Rattle.rows.specs.Code.Row.{RowAt}
use Rattle.rows.proofs.check_row.Given as goal

abbrev pub invariant-loop-b : goal.invariant-loop-b
invariant-loop-b g l = RowAt l.kinds (sides_of l.dimensions) l.row l.outer (g.N.Outside.number l.number) l.from

abbrev pub decreases-loop-b : goal.decreases-loop-b
decreases-loop-b g l = length l.row - l.from
