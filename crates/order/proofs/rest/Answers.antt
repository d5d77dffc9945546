-- `order::rest` meets its contract. The loop goes from the last byte back to the place: what is made so far is the
-- number of the bytes from i on, as many as are left of eight. Assumes nothing.
use Prim.Native.Nat.{◌-◌}
use mathlib.Core.Path.{sym}
use native.Mathlib.Nat.{le_refl}
use native.Mathlib.Omega.{arith}
use lib.ListN.{length}
use Rattle.std.proofs.Common.{rules}
use Rattle.order.proofs.Little.{little-past}
use Rattle.order.proofs.rest.Invariants.{one_more, seven}
use Rattle.order.proofs.rest.Goals as goal

pub loop-i-init : goal.loop-i-init
loop-i-init c =
    let start = c in
    let s = start.args.s.now in (
      start.requires.0,
      le_refl (length s),
      sym (little-past s (length s) (8 - (length s - start.args.at)) (le_refl (length s))),
    )

pub overflow_mul-number : goal.overflow_mul-number
overflow_mul-number c =
    let a = c.args in
    let r = seven a.s.now a.at c.loop-i.i (search rules) c.loop-i-test.true in
    omega arith

pub overflow_add-number : goal.overflow_add-number
overflow_add-number c =
    let a = c.args in
    let r = seven a.s.now a.at c.loop-i.i (search rules) c.loop-i-test.true in
    omega arith

pub loop-i-preserved : goal.loop-i-preserved
loop-i-preserved c =
    let a = c.args in
    let l = c.loop-i in
    let e = c.wide64.ensures.0 in (
      omega arith,
      omega arith,
      rw (e, l.invariant.2) (one_more a.s.now a.at l.i c.loop-i-test.true (omega arith)),
    )
