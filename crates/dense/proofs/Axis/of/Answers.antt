-- `dense::Axis::of` meets its contract, in three cases: the window meets the domain, lies below it, or above it.
-- Assumes nothing.
use Rattle.std.proofs.Common.{arith}
use Rattle.dense.proofs.Told.{axis-hit, axis-below, axis-above}
use Rattle.dense.proofs.Axis.of.Goals as goal
use Rattle.dense.proofs.Axis.of.Goals.{else-window-domain-via-then-window-domain+else-domain-window, else-window-domain-via-else-window-domain}

pub returns-then-domain-window : goal.returns-then-domain-window
returns-then-domain-window c =
    let a = c.args in
    axis-hit a.domain.low a.domain.high a.extent a.window.low a.window.high _ c.tiles-tiles.ensures
    (omega arith) (omega arith) _ c.min.result _ _ _ c.saturating_sub.ensures (omega arith)
    c.saturating_sub-then-domain-window.ensures c.saturating_sub-then-domain-window-2.ensures (omega arith)

pub returns : goal.returns
returns c =
    let a = c.args in
    elim c.else-window-domain.branch [
      | else-window-domain-via-then-window-domain+else-domain-window w ↦ axis-below a.domain.low a.domain.high a.extent a.window.low a.window.high _ c.tiles-tiles.ensures (omega arith)
      | else-window-domain-via-else-window-domain w ↦ axis-above a.domain.low a.domain.high a.extent a.window.low a.window.high _ c.tiles-tiles.ensures (omega arith)
    ]
