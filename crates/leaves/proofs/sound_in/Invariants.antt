-- `leaves::sound_in` meets its contract. The invariant: the ranges of the leaves before leaf k have no fault. Assumes
-- nothing.
use Prim.Native.Nat.{◌≤◌}
use Rattle.leaves.specs.Code.Sound.{SoundSide}
use Rattle.leaves.proofs.sound_in.Given as goal

abbrev pub invariant-loop-k : goal.invariant-loop-k
invariant-loop-k l = (l.k ≤ l.tiles) × SoundSide l.kind l.leaves l.box_bytes l.side l.k
