-- `dense::query` meets its contract: refused, nothing found, or filled. The laws are those of `Holding`.
-- Assumes nothing.
use Rattle.std.proofs.Common.{arith}
use Rattle.answers.specs.Told.{told}
use Rattle.answers.proofs.Told.{told-err, ok-clear}
use Rattle.dense.proofs.Holding.{some-sides, none-by, splits-by, capped-by, held_by, found-by, buffer-by, refused, answered}
use Rattle.dense.proofs.query.Goals as goal

pub returns-in_err-check_query : goal.returns-in_err-check_query
unfolding told
returns-in_err-check_query c =
    let a = c.args in
    let says = told-err c.check_query.ensures c.in_err-check_query.was in
    let r = refused a.description a.domain a.extents a.window a.order _ _ c.from_residual.ensures.1 says a.out.now in
    record { answer = r.0; buffer = r.1 }

pub axes_of-axes-requires : goal.axes_of-axes-requires
axes_of-axes-requires c =
    let passed = ok-clear c.check_query.ensures c.in_ok-check_query.was in
    let n = c.sides_of-n in
    (omega (arith, n.ensures), splits-by _ _ _ _ c.args.order passed _ n.ensures)

pub found_of-found-requires : goal.found_of-found-requires
found_of-found-requires c =
    let passed = ok-clear c.check_query.ensures c.in_ok-check_query.was in
    let n = c.sides_of-n in
    (omega (arith, n.ensures), capped-by _ _ _ _ _ passed _ n.ensures _ c.axes_of-axes.ensures)

pub overflow_sub-n : goal.overflow_sub-n
overflow_sub-n c =
    let passed = ok-clear c.check_query.ensures c.in_ok-check_query.was in
    let n = c.sides_of-n in
    omega (arith, some-sides _ _ _ _ c.args.order passed, n.ensures)

pub fill-requires : goal.fill-requires
fill-requires c =
    let passed = ok-clear c.check_query.ensures c.in_ok-check_query.was in
    let n = c.sides_of-n in
    held_by _ _ _ _ _ passed _ n.ensures _ c.axes_of-axes.ensures

pub returns-then-found-ne0 : goal.returns-then-found-ne0
returns-then-found-ne0 c =
    let passed = ok-clear c.check_query.ensures c.in_ok-check_query.was in
    let x = c.axes_of-axes in
    let n = c.sides_of-n in
    let r = answered _ _ _ _ _ passed _ c.args.out.now _
    (found-by _ _ _ _ _ passed _ n.ensures _ x.ensures _ c.found_of-found.ensures)
    (buffer-by _ _ _ _ _ passed _ n.ensures _ x.ensures c.fill.ensures) in
    record { answer = r.0; buffer = r.1 }

pub returns-else-found-ne0 : goal.returns-else-found-ne0
returns-else-found-ne0 c =
    let passed = ok-clear c.check_query.ensures c.in_ok-check_query.was in
    let x = c.axes_of-axes in
    let n = c.sides_of-n in
    let is = c.found_of-found.ensures in
    let z = none-by _ _ _ _ _ passed _ n.ensures _ x.ensures _ is c.if-found-ne0.false in
    let r = answered _ _ _ _ _ passed _ c.args.out.now _ (found-by _ _ _ _ _ passed _ n.ensures _ x.ensures _ is) (z.1 c.args.out.now) in
    record { answer = r.0; buffer = r.1 }
