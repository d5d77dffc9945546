-- `examples::windows` is safe and ends: there are 32 windows all along.
use Rattle.std.proofs.Common.{◌≡◌, length}
use Rattle.examples.proofs.windows.Given as goal

abbrev pub invariant-loop-i : goal.invariant-loop-i
invariant-loop-i l = length l.windows ≡ 32
