-- `c_open::bytes_in` meets its contract: the bytes of one place more a turn, after those before them. Assumes nothing.
use mathlib.Core.List.{List}
use Prim.Native.Nat.{ℕ, ◌+◌, ◌*◌}
use lib.ListN.{get_or, replicate}
use Rattle.answers.specs.Runs.{join}
use Rattle.answers.proofs.Written.{Written}
use Rattle.order.specs.Little.{bytes_of}
use Rattle.c_open.proofs.bytes_in.Given as goal

abbrev pub place : List ℕ → ℕ → ℕ → List ℕ
place state at i = bytes_of 8 (get_or state (at + i) 0)

abbrev pub invariant-loop-i : goal.invariant-loop-i
invariant-loop-i l = Written (replicate 64 0) l.bytes (l.i * 8) (join (place l.state l.at) 0 l.i)
