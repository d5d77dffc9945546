-- `report_text::read_kinds` meets its contract. The invariant: the lines of the first i kinds are read. Assumes nothing.
use Prim.Native.Nat.{ℕ}
use mathlib.Core.Path.{◌≡◌}
use mathlib.Core.List.{List}
use lib.ListN.{length}
use Rattle.report_text.specs.Code.Reading.{Next, Kinds}
use Rattle.report_text.proofs.read_kinds.Given as goal

abbrev pub invariant-loop-i : goal.invariant-loop-i
invariant-loop-i l = (length l.kinds ≡ 4) × ((t : List ℕ) → Next t 1 l.initial.lines → Kinds t l.i l.kinds l.lines)
