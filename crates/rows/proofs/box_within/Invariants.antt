-- `rows::box_within` meets its contract. The loop's invariant: the place is where dimension i starts, and the box is without a fault and inside where the
-- dimensions from i on are, since the ones before were.
-- Assumes nothing.
use mathlib.Core.Path.{◌≡◌}
use Prim.Native.Nat.{◌≤◌}
use Rattle.description.specs.Description.{side_start}
use Rattle.rows.specs.Code.Row.{sound_inside}
use Rattle.boxes.proofs.Boxes.{Left}
use Rattle.rows.proofs.box_within.Given as goal

abbrev pub invariant-loop-i : goal.invariant-loop-i
invariant-loop-i l = (l.i ≤ l.n) × (l.at ≡ side_start l.kinds l.i) × Left (sound_inside l.kinds l.bytes l.outer) l.n l.i
