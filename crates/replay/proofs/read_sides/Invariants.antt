-- `replay::read_sides` meets its contract. The invariant: the ends of the first i dimensions are read. Assumes nothing.
use mathlib.Core.Path.{◌≡◌}
use lib.ListN.{length}
use Rattle.replay.specs.Code.Reading.{Read}
use Rattle.replay.proofs.read_sides.Given as goal

abbrev pub invariant-loop-i : goal.invariant-loop-i
invariant-loop-i l = (length l.sides ≡ 4) × (Read l.description.kinds l.line l.i l.sides l.next)
