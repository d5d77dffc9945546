-- `c_open::put_bytes` meets its contract: the numbers still to come, over what stands there now, are all of them over
-- what stood there first. Assumes nothing.
use mathlib.Core.Path.{◌≡◌}
use Prim.Native.Nat.{◌+◌}
use lib.ListN.{drop}
use lib.Seq.{sets}
use Rattle.c_open.specs.State.{words_of}
use Rattle.c_open.proofs.put_bytes.Given as goal

abbrev pub invariant-loop-i : goal.invariant-loop-i
invariant-loop-i l = sets l.state (l.at + l.i) (drop l.i (words_of l.bytes)) ≡ sets l.initial.state l.at (words_of l.bytes)
