-- `replay::fits` meets its contract. The invariant: line i starts at the place, and what is left of the text is held to what is left of the
-- room. Assumes nothing.
use Prim.Native.Nat.{◌-◌}
use lib.ListN.{length}
use Rattle.text.specs.Code.Places.{AtLine}
use Rattle.replay.proofs.Text.{Measures}
use Rattle.replay.proofs.fits.Given as goal

abbrev pub invariant-loop-at : goal.invariant-loop-at
invariant-loop-at l = (AtLine l.log l.i l.at) × (Measures l.description l.tiles l.body l.log l.room l.left l.i)

abbrev pub decreases-loop-at : goal.decreases-loop-at
decreases-loop-at l = length l.log - l.at
