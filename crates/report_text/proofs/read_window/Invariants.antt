-- `report_text::read_window` meets its contract. The invariant: the lines of the first i sides are read. Assumes nothing.
use Prim.Native.Nat.{ℕ, ◌+◌}
use mathlib.Core.Path.{◌≡◌}
use mathlib.Core.List.{List}
use lib.ListN.{length}
use Rattle.answers.specs.Runs.{filled}
use Rattle.report_text.specs.Asked.{dimension_of, bits_at}
use Rattle.report_text.specs.Code.Reading.{Next, Sides}
use Rattle.report_text.proofs.read_window.Given as goal

abbrev pub invariant-loop-i : goal.invariant-loop-i
invariant-loop-i l =
    (length l.sides ≡ 4)
    × ((t : List ℕ) → Next t (5 + l.d) l.initial.lines → l.kinds ≡ filled (λ i. dimension_of (bits_at t i)) (dimension_of 64) l.d 4 → Sides t l.d l.i l.sides l.lines)
