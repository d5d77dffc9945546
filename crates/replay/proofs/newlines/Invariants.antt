-- `replay::newlines` meets its contract. The invariant: those so far and those still to come are all of them. Assumes nothing.
use Prim.Native.Nat.{◌+◌, ◌≤◌}
use mathlib.Core.Path.{◌≡◌}
use lib.ListN.{drop}
use Rattle.replay.specs.Code.Reading.{newlines}
use Rattle.replay.proofs.newlines.Given as goal

abbrev pub invariant-loop-byte : goal.invariant-loop-byte
invariant-loop-byte l = (l.count ≤ l.byte-index) × (l.count + newlines (drop l.byte-index l.text) ≡ newlines l.text)
