-- `dense::fill` meets its contract. The measure of the recursion is the number of axes after this one. The laws are those
-- of `Filling` and `Storing`.
-- Assumes nothing.
use Rattle.std.proofs.Common.{◌≡◌, ap, ℕ, ◌+◌, ◌-◌, arith}
use native.Mathlib.Nat.{pos_of_ne-zero}
use Rattle.dense.specs.Code.Spans.{numbers_of}
use Rattle.dense.proofs.Storing.{same_size, no_room, filled_next, all-stored}
use Rattle.dense.proofs.Filling.{filled-as, run_of, leaf-of, rows_of, end_below, rows-held, held_next}
use Rattle.dense.proofs.+fill.Goals as goal

-- no number of this axis is above the most
pub overflow_mul-start : goal.overflow_mul-start
overflow_mul-start t c = omega (arith, end_below c.args.axes c.args.k c.args.more c.args.tile c.requires)

pub overflow_add-start : goal.overflow_add-start
overflow_add-start t c = omega (arith, end_below c.args.axes c.args.k c.args.more c.args.tile c.requires)

pub overflow_add-end : goal.overflow_add-end
overflow_add-end t c = omega (arith, end_below c.args.axes c.args.k c.args.more c.args.tile c.requires)

-- the last axis
pub run-requires : goal.run-requires
run-requires t c = omega (arith, end_below c.args.axes c.args.k c.args.more c.args.tile c.requires)

pub returns-then-more-eq0 : goal.returns-then-more-eq0
returns-then-more-eq0 t c =
    let x = c.args in
    filled-as _ (leaf-of x.axes x.k x.more x.tile c.if-more-eq0.true) c.run.ensures

-- one axis after it
pub fill_rows-requires : goal.fill_rows-requires
fill_rows-requires t c = rows-held c.args.axes c.args.k c.args.more c.args.tile c.requires c.if-more-eq1.true

pub returns-then-more-eq1 : goal.returns-then-more-eq1
returns-then-more-eq1 t c =
    let x = c.args in
    filled-as _ (rows_of x.axes x.k x.more x.tile c.if-more-eq1.true) c.fill_rows.ensures

-- more of them
pub returns-then-out-next : goal.returns-then-out-next
returns-then-out-next t c =
    let x = c.args in
    filled-as _ (run_of x.axes x.k x.more x.tile) (no_room c.loop-t.invariant.1 c.if-out-next.true)

pub fill-next-requires : goal.fill-next-requires
fill-next-requires t c =
    let x = c.args in
    let some = pos_of_ne-zero c.if-more-eq0.false in
    (omega (arith, c.decreases), held_next x.axes x.k x.more x.tile c.requires _ some c.loop-t-test.true)

pub loop-t-preserved : goal.loop-t-preserved
loop-t-preserved t c =
    let l = c.loop-t in
    let x = c.args in
    let some = pos_of_ne-zero c.if-more-eq0.false in
    let g = numbers_of x.axes (x.k + 1) in
    let z : x.more - 1 + 1 ≡ x.more = omega arith in
    let f = filled-as _ (ap (λ (m : ℕ). g m l.t) z) c.fill-next.ensures in
    let n = filled_next (g x.more) l.t _ c.loop-t-test.true l.invariant.1 f in
    (same_size n, n)

pub returns : goal.returns
returns t c =
    let x = c.args in
    filled-as _ (run_of x.axes x.k x.more x.tile) (all-stored _ _ _ c.loop-t-test.false c.loop-t.invariant.1)
