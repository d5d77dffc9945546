-- `windows::window_ends` meets its contract. The loop's invariant: the ends of the first i sides are carried, and each fits its kind.
-- Assumes nothing.
use mathlib.Core.Path.{◌≡◌}
use mathlib.Core.List.{List}
use Prim.Native.Nat.{ℕ, ◌<◌}
use Rattle.description.specs.declared.Kind.{Kind}
use Rattle.ranges.specs.Ranges.{Ends, kind_of, ends_of}
use Rattle.boxes.specs.declared.Side.{Side}
use Rattle.boxes.specs.Boxes.{range_in}
use Rattle.windows.specs.Code.Carried.{carried}
use Rattle.windows.proofs.Carrying.{Fits}
use Rattle.windows.proofs.window_ends.Given as goal

abbrev pub side : List Side → ℕ → Ends
side sides i = ends_of (range_in sides i)

abbrev pub kind : List Side → ℕ → Kind
kind sides i = kind_of (range_in sides i)

abbrev pub invariant-loop-i : goal.invariant-loop-i
invariant-loop-i l =
    (l.ends ≡ carried (side l.sides) l.i) × ((j : ℕ) → j < l.i → Fits (side l.sides) (kind l.sides) j)
