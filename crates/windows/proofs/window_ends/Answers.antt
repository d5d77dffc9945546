-- `windows::window_ends` meets its contract. The loop's invariant: the ends of the first i sides are carried, and each fits its kind.
-- Assumes nothing.
use mathlib.Core.Path.{◌≡◌, sym, ap, ◌∙◌}
use Prim.Native.Nat.{◌≤◌, ◌<◌}
use native.Mathlib.Omega.{arith}
use Rattle.windows.specs.Code.Carried.{ends_of_window}
use Rattle.windows.proofs.Carrying.{carried_none, carried-next, fits_more, fitting}
use Rattle.windows.proofs.window_ends.Invariants.{side, kind}
use Rattle.windows.proofs.window_ends.Goals as goal

pub loop-i-init : goal.loop-i-init
loop-i-init c = (sym (carried_none (side c.args.sides)), λ j l. absurd (omega arith))

pub loop-i-preserved : goal.loop-i-preserved
loop-i-preserved c =
    let near : c.loop-i.i < 4
    = omega (arith, c.loop-i-test, c.sides_of-n.ensures) in
    let a = c.args in
    let p = c.patterns-side.ensures in (
      rw (c.loop-i.invariant.0, p.0, p.1) (carried-next (side a.sides) c.loop-i.i near),
      fits_more (side a.sides) (kind a.sides) c.loop-i.i c.loop-i.invariant.1 (rw (← p.0, ← p.1) (p.2, p.3)),
    )

pub returns : goal.returns
returns c =
    let a = c.args in
    let all : c.loop-i.i ≡ c.sides_of-n.result = omega (arith, c.loop-i-test, c.loop-i.auto.i-end) in
    let e = sym (all ∙ c.sides_of-n.ensures) in
    let few : c.loop-i.i ≤ 4 = omega (arith, c.sides_of-n.ensures) in (
      c.loop-i.invariant.0 ∙ ap (ends_of_window a.sides) (sym e),
      rw (e, c.loop-i.invariant.0) (fitting (side a.sides) (kind a.sides) c.loop-i.i few c.loop-i.invariant.1),
    )
