-- `parts::take_boxes` meets its contract. The loop's invariant: the first i boxes are taken. The measure is the number of
-- those that are left. Assumes nothing.
use mathlib.Core.Path.{◌≡◌}
use Prim.Native.Nat.{◌+◌, ◌-◌, ◌*◌, ◌≤◌, ◌<◌}
use native.Mathlib.Nat.{mul-le-mul, mul-le-mul_right}
use native.Mathlib.Omega.{arith}
use lib.ListN.{length, take, drop, length-take, length-drop}
use lib.Seq.{take-length}
use Rattle.description.specs.Limits.{most_tiles}
use Rattle.tree.specs.Shape.{most_box_bytes}
use Rattle.parts.proofs.Runs.{most_bytes, most-boxes, next-run, none-taken, more-taken}
use Rattle.parts.proofs.take_boxes.Goals.{After-lesser-more}
use Rattle.parts.proofs.take_boxes.Goals as goal
use Rattle.parts.proofs.take_boxes.Goals.{then-cursor-eq0, else-cursor-eq0}

pub loop-i-init : goal.loop-i-init
loop-i-init c =
    let x = c.args in (
      omega arith,
      elim c.if-cursor-eq0.branch [ then-cursor-eq0 w ↦ omega arith | else-cursor-eq0 w ↦ omega arith ],
      none-taken x.parts x.cursor x.work.now x.bytes.now (0 * x.box_bytes) (omega arith),
    )

-- how many boxes are taken next
turn : (c : After-lesser-more) → (let l = c.loop-i in
    let x = c.args in
    let more = c.lesser-more.result in
    (0 < more) × (l.i + more ≤ x.boxes) × (l.i * x.box_bytes + more * x.box_bytes ≤ length x.bytes.now)
    × (length x.bytes.now ≤ most_tiles * most_box_bytes))
turn c =
    let l = c.loop-i in
    let x = c.args in
    let run = c.requires.run_of in
    let inside : l.i + c.lesser-more.result ≤ x.boxes = omega (arith, c.lesser-more.ensures, l.invariant.0) in
    let few : x.boxes ≤ most_tiles = omega (arith, most-boxes run) in (
      omega (arith, c.lesser-more.ensures, l.invariant.1, c.loop-i-test.true),
      inside,
      omega (arith, mul-le-mul_right x.box_bytes inside, run.size),
      omega (arith, run.size, mul-le-mul few (most_bytes run)),
    )

-- the level has more boxes than those before them
left : (c : After-lesser-more) → (let l = c.loop-i in
    let u = c.args.cursor in u.index + l.i < u.count)
left c =
    let run = c.requires.run_of in
    omega (arith, turn c, run.few, run.range.within)

pub take_run-c-requires : goal.take_run-c-requires
take_run-c-requires c =
    let l = c.loop-i in
    let x = c.args in
    let t = turn (goal.at.take_run-c-requires c).After-lesser-more in
    let from = l.i * x.box_bytes in
    let to = from + c.lesser-more.result * x.box_bytes in
    let before : length (take from x.bytes.now) ≡ from = rw length-take (omega (arith, t.2)) in
    let size : length (take (to - from) (drop from x.bytes.now)) ≡ c.lesser-more.result * x.box_bytes = rw (length-take, length-drop) (omega (arith, t.2)) in
    record {
      run_of = next-run c.requires.run_of l.i c.lesser-more.result (rw before at (l.invariant.2.next (left (goal.at.take_run-c-requires c).After-lesser-more))) size t.2 t.1;
      boxes_nonzero = t.0;
    }

pub loop-i-preserved : goal.loop-i-preserved
loop-i-preserved c =
    let l = c.loop-i in
    let x = c.args in
    let t = turn (goal.at.loop-i-preserved c).After-lesser-more in
    let from = l.i * x.box_bytes in
    let size = c.lesser-more.result * x.box_bytes in
    let slice : from + size - from ≡ size = omega arith in
    let all : (l.i + c.lesser-more.result) * x.box_bytes ≡ from + size = omega arith in (
      t.1,
      l.invariant.1,
      rw all
          (more-taken x.parts x.cursor x.work.now x.bytes.now from size l.i c.lesser-more.result t.2 l.invariant.2
          (rw slice at c.take_run-c.ensures) (left (goal.at.loop-i-preserved c).After-lesser-more)),
    )

pub returns : goal.returns
returns c =
    let l = c.loop-i in
    let x = c.args in
    let all : l.i ≡ x.boxes = omega (arith, l.invariant.0, c.loop-i-test.false) in
    rw (all, ← c.requires.run_of.size, take-length x.bytes.now) at l.invariant.2

pub overflow_mul-from : goal.overflow_mul-from
overflow_mul-from c = omega (arith, turn (goal.at.overflow_mul-from c).After-lesser-more)

pub overflow_mul-to : goal.overflow_mul-to
overflow_mul-to c = omega (arith, turn (goal.at.overflow_mul-to c).After-lesser-more)

pub overflow_add-to : goal.overflow_add-to
overflow_add-to c = omega (arith, turn (goal.at.overflow_add-to c).After-lesser-more)

pub slice_bounds-take_run-count : goal.slice_bounds-take_run-count
slice_bounds-take_run-count c = omega (arith, turn (goal.at.slice_bounds-take_run-count c).After-lesser-more)

pub slice_bounds-take_run-start : goal.slice_bounds-take_run-start
slice_bounds-take_run-start c = omega (arith, turn (goal.at.slice_bounds-take_run-start c).After-lesser-more)

pub slice_bounds-take_run-end : goal.slice_bounds-take_run-end
slice_bounds-take_run-end c = omega (arith, turn (goal.at.slice_bounds-take_run-end c).After-lesser-more)

pub overflow_add-i : goal.overflow_add-i
overflow_add-i c = omega (arith, turn (goal.at.overflow_add-i c).After-lesser-more)

pub loop-i-smaller : goal.loop-i-smaller
loop-i-smaller c = omega (arith, turn (goal.at.loop-i-smaller c).After-lesser-more)
