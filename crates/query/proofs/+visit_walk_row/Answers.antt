-- `query::visit` and `query::walk_row` meet their contracts. The laws are those of `Rows.antt`.
-- Assumes nothing.
use Rattle.std.proofs.Common.{◌≡◌, ◌+◌, ◌-◌, ◌*◌, ◌<◌, sym, ◌∙◌, arith}
use borrow.Author.Tests.{not-true, not-false}
use Rattle.tree.proofs.Steps.{run_none}
use Rattle.query.proofs.Rows.{box-fits, tile-fits, count_fits, missed, met, found-fits, found-one, handed-over, row_below}
use Rattle.query.proofs.Rows.{level-near, first_fits, row_fits, place_at, start_fits, the-children, turn, row_first, row-rest}
use Rattle.query.proofs.+visit_walk_row.Goals as goal

pub visit-look_at-seen-requires-clause-box_bytes_in_bounds : goal.visit-look_at-seen-requires-clause-box_bytes_in_bounds
visit-look_at-seen-requires-clause-box_bytes_in_bounds t c = (box-fits c.requires, count_fits c.requires)

-- a box that does not meet
pub visit-returns-then-not-seen : goal.visit-returns-then-not-seen
visit-returns-then-not-seen t c =
    let seen = c.look_at-seen.ensures.look in
    missed c.requires seen.1 seen.0 (not-true _ c.if-not-seen.true)

-- above the leaves
pub visit-walk_row-requires : goal.visit-walk_row-requires
visit-walk_row-requires t c =
    let seen = c.look_at-seen.ensures.look in
    (omega (arith, c.decreases), row_below (met c.requires seen.1 seen.0 (not-false _ c.if-not-seen.false)) (omega arith))

pub visit-returns-then-distance-gt0 : goal.visit-returns-then-distance-gt0
visit-returns-then-distance-gt0 t c =
    let seen = c.look_at-seen.ensures.look in
    handed-over (met c.requires seen.1 seen.0 (not-false _ c.if-not-seen.false)) (omega arith) c.walk_row.ensures

-- a leaf
pub visit-overflow_cast-k : goal.visit-overflow_cast-k
visit-overflow_cast-k t c = omega (arith, tile-fits c.requires)

pub visit-overflow_add-result : goal.visit-overflow_add-result
visit-overflow_add-result t c =
    let seen = c.look_at-seen.ensures.look in
    record { fits = found-fits (met c.requires seen.1 seen.0 (not-false _ c.if-not-seen.false)) (omega arith) }

pub visit-returns : goal.visit-returns
visit-returns t c =
    let seen = c.look_at-seen.ensures.look in
    found-one (met c.requires seen.1 seen.0 (not-false _ c.if-not-seen.false)) (omega arith) c.keep.ensures

-- the first box's number, the level's count in the table, where the row ends
pub walk_row-overflow_mul-first : goal.walk_row-overflow_mul-first
walk_row-overflow_mul-first t c = omega (arith, first_fits c.args.parent c.requires)

pub walk_row-overflow_mul-distance : goal.walk_row-overflow_mul-distance
walk_row-overflow_mul-distance t c = omega (arith, level-near c.args.parent c.requires)

pub walk_row-overflow_add-distance : goal.walk_row-overflow_add-distance
walk_row-overflow_add-distance t c = omega (arith, level-near c.args.parent c.requires)

pub walk_row-offset_bounds-plan-distance : goal.walk_row-offset_bounds-plan-distance
walk_row-offset_bounds-plan-distance t c = omega (arith, level-near c.args.parent c.requires)

pub walk_row-bounds-plan-distance : goal.walk_row-bounds-plan-distance
walk_row-bounds-plan-distance t c = omega (arith, level-near c.args.parent c.requires)

pub walk_row-overflow_add-last : goal.walk_row-overflow_add-last
walk_row-overflow_add-last t c =
    omega (arith, the-children c.args.parent c.requires c.row_length.ensures, row_fits c.args.parent c.requires)

-- the level's place in the table, and the first box's
pub walk_row-overflow_mul-place : goal.walk_row-overflow_mul-place
walk_row-overflow_mul-place t c = omega (arith, level-near c.args.parent c.requires)

pub walk_row-offset_bounds-plan-distance-2 : goal.walk_row-offset_bounds-plan-distance-2
walk_row-offset_bounds-plan-distance-2 t c = omega (arith, level-near c.args.parent c.requires)

pub walk_row-bounds-plan-distance-2 : goal.walk_row-bounds-plan-distance-2
walk_row-bounds-plan-distance-2 t c = omega (arith, level-near c.args.parent c.requires)

pub walk_row-overflow_mul-place-2 : goal.walk_row-overflow_mul-place-2
walk_row-overflow_mul-place-2 t c = omega (arith, start_fits c.args.parent c.requires)

pub walk_row-overflow_add-place : goal.walk_row-overflow_add-place
walk_row-overflow_add-place t c = omega (arith, start_fits c.args.parent c.requires)

pub walk_row-loop-k-init : goal.walk_row-loop-k-init
walk_row-loop-k-init t c =
    let x = c.args in
    let first = x.parent * x.plan.now.fanout in
    let size : first + c.row_length.result - first ≡ c.row_length.result = omega arith in
    let whole = the-children x.parent c.requires c.row_length.ensures in
    (rw (size, whole) c.requires, rw (size, whole), rw (place_at x.parent c.requires))

pub walk_row-visit-sofar-requires : goal.walk_row-visit-sofar-requires
walk_row-visit-sofar-requires t c = (
  omega (arith, c.decreases),
  row_first c.loop-k.invariant.0 (omega (arith, c.loop-k-test)) c.loop-k.invariant.2,
)

pub walk_row-overflow_add-place-in-loop-k : goal.walk_row-overflow_add-place-in-loop-k
walk_row-overflow_add-place-in-loop-k t c =
    let box = row_first c.loop-k.invariant.0 (omega (arith, c.loop-k-test)) c.loop-k.invariant.2 in
    omega (arith, box-fits box)

pub walk_row-loop-k-preserved : goal.walk_row-loop-k-preserved
walk_row-loop-k-preserved t c =
    let l = c.loop-k in
    let last = c.args.parent * c.args.plan.now.fanout + c.row_length.result in
    let some : 0 < last - l.k = omega (arith, c.loop-k-test) in
    let less : last - (l.k + 1) ≡ last - l.k - 1 = omega arith in
    let v = c.visit-sofar in (
      rw less (row-rest l.invariant.0 some l.invariant.2 v.ensures),
      rw (less, v.ensures) (sym (turn l.invariant.0 some l.invariant.2) ∙ l.invariant.1),
      rw l.invariant.2 (omega arith),
    )

pub walk_row-returns : goal.walk_row-returns
walk_row-returns t c = sym (run_none _ _ _ _ (omega (arith, c.loop-k-test))) ∙ c.loop-k.invariant.1
