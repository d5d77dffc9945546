-- `dense::fill_rows` meets its contract.
-- Assumes nothing.
use mathlib.Core.Path.{◌≡◌, ap}
use mathlib.Core.List.{[], ◌∷◌}
use Prim.Native.Nat.{ℕ, ◌+◌, ◌-◌, ◌*◌}
use native.Mathlib.Omega.{arith}
use Rattle.answers.specs.Runs.{join}
use Rattle.dense.specs.Code.Spans.{row_of}
use Rattle.dense.proofs.Storing.{same_size, no_room, filled_next, all-stored}
use Rattle.dense.proofs.Filling.{filled-as}
use Rattle.dense.proofs.fill_rows.Goals as goal

pub loop-t-preserved : goal.loop-t-preserved
loop-t-preserved c =
    let a = c.args in
    let from : ℕ = c.loop-t.t * a.row.tiles + a.row.first in
    let z : from + a.row.span - from ≡ a.row.span = omega arith in
    let f = filled-as _ (ap (join (λ i. i ∷ []) from) z) c.run-next.ensures in
    let n = filled_next (row_of a.row.tiles a.row.first a.row.span) c.loop-t.t _ c.loop-t-test.true c.loop-t.invariant.1 f in
    (same_size n, n)

pub returns-then-out-next : goal.returns-then-out-next
returns-then-out-next c = no_room c.loop-t.invariant.1 c.if-out-next.true

pub returns : goal.returns
returns c = all-stored _ _ _ c.loop-t-test.false c.loop-t.invariant.1
