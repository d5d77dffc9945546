-- `replay::write` meets its contract. The invariant: the line of that number starts at the place, and whoever writes what is left of the text, from here on,
-- has written all of it. Assumes nothing.
use Prim.Native.Nat.{◌-◌}
use lib.ListN.{length}
use Rattle.text.specs.Code.Places.{AtLine}
use Rattle.replay.proofs.Text.{Writes}
use Rattle.replay.proofs.write.Given as goal

abbrev pub invariant-loop-at : goal.invariant-loop-at
invariant-loop-at l = (AtLine l.log l.number l.at) × (Writes l.description l.tiles l.body l.log l.initial.out l.out l.next l.number)

abbrev pub decreases-loop-at : goal.decreases-loop-at
decreases-loop-at l = length l.log - l.at
