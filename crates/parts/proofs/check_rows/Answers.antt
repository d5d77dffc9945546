-- `parts::check_rows` meets its contract. The loop's invariant: the parent of box i stands at `place`, of its row `row`
-- boxes are left, and what the boxes from i on say is what all of them say, since those before said nothing. The measure
-- is the number of boxes that are left. Assumes nothing.
use mathlib.Core.Path.{◌≡◌, refl, sym, ap, ◌∙◌}
use Prim.Native.Nat.{ℕ, ◌+◌, ◌-◌, ◌*◌, ◌/◌, ◌^◌, ◌≤◌, ◌<◌}
use native.Mathlib.Nat.{add-zero, mul-le-mul, mul-le-mul_right, div-mul-le_self, lt-div-mul-add, div-eq_of_lt-le, div-le_self, mul-div_cancel}
use native.Mathlib.Omega.{arith}
use lib.ListN.{length, take, drop, length-take}
use Rattle.answers.specs.Refusals.{none}
use Rattle.answers.specs.Checks.{otherwise, each, moved}
use Rattle.answers.specs.declared.Refusal.{Refusal}
use Rattle.answers.proofs.Runs.{over-start}
use Rattle.answers.proofs.Moved.{moved-code, moved-place}
use Rattle.std.proofs.Common.{rules}
use Rattle.answers.specs.Told.{told, number_of}
use Rattle.answers.proofs.Told.{goes_on, halts, moves}
use Rattle.answers.proofs.Checks.{none_left, each-add}
use Rattle.rtree.proofs.Left.{left}
use Rattle.description.specs.Description.{sides_of}
use Rattle.description.specs.Limits.{most_tiles}
use Rattle.tree.specs.Shape.{most_box_bytes}
use Rattle.opening.specs.Code.Stored.{Run}
use Rattle.opening.proofs.Rows.{row_before}
use Rattle.parts.specs.Code.Runs.{child_check}
use Rattle.parts.specs.Code.Steps.{most_work}
use Rattle.parts.proofs.Rows.{piece-said}
use Rattle.parts.proofs.Runs.{some_bytes, most_bytes, most-boxes}
use Rattle.parts.proofs.check_rows.Goals.{After-check_row-told, After-lesser-more, After-map_err, Start}
use Rattle.parts.proofs.check_rows.Goals as goal

-- the first row
first-row : (c : Start) → (let u = c.args.cursor in
    (u.index / u.fanout * u.fanout ≤ u.index) × (u.index < u.index / u.fanout * u.fanout + u.fanout))
first-row c =
    let u = c.args.cursor in
    (div-mul-le_self u.index u.fanout, lt-div-mul-add {a = u.index} {b = u.fanout} c.requires.fanout_nonzero)

-- places in the work buffer are small
small : (c : Start) → (let x = c.args in
    (q : ℕ) → q ≤ x.cursor.index + x.boxes → x.cursor.parents + q * x.box_bytes ≤ most_work + most_tiles * most_box_bytes)
small c q few =
    let run = c.requires.run_of in
    let fewer : q ≤ most_tiles = omega (arith, few, most-boxes run) in
    omega (arith, mul-le-mul fewer (most_bytes run), run.range.parents)

first-place : (c : Start) → (let x = c.args in
    x.cursor.parents + x.cursor.index / x.cursor.fanout * x.box_bytes ≤ most_work + most_tiles * most_box_bytes)
first-place c =
    let u = c.args.cursor in
    small c (u.index / u.fanout) (omega (arith, div-le_self u.index u.fanout))

pub loop-i-init : goal.loop-i-init
loop-i-init c =
    let x = c.args in
    let u = x.cursor in
    let q = u.index / u.fanout in
    let row = first-row (goal.at.loop-i-init c).Start in
    let here : u.index + 0 ≡ u.index = add-zero u.index in (
      omega arith,
      omega (arith, row),
      omega (arith, row),
      rw here (omega (arith, mul-le-mul_right x.box_bytes (div-le_self u.index u.fanout))),
      (λ _. rw here refl),
      (λ _. rw here (omega (arith, row))),
      sym (over-start otherwise none _ _),
    )

-- what is taken of the row
turn : (c : After-lesser-more) → (let l = c.loop-i in
    let x = c.args in
    let more = c.lesser-more.result in
    (0 < more) × (l.i + more ≤ x.boxes) × (more ≤ l.row)
    × (l.i * x.box_bytes + more * x.box_bytes ≤ length x.bytes.now))
turn c =
    let l = c.loop-i in
    let x = c.args in
    let more = c.lesser-more.result in
    let inside : l.i + more ≤ x.boxes = omega (arith, c.lesser-more.ensures, l.invariant) in (
      omega (arith, c.lesser-more.ensures, l.invariant, c.loop-i-test),
      inside,
      omega (arith, c.lesser-more.ensures),
      omega (arith, mul-le-mul_right x.box_bytes inside, c.requires.run_of.size),
    )

-- a fault lies before the end of what is taken
placed : (c : After-check_row-told) → (
    (told c.check_row-told.result).place ≤ c.lesser-more.result * c.args.box_bytes)
unfolding number_of
placed c =
    let x = c.args in
    let d = x.parts.description in
    let from = c.loop-i.i * x.box_bytes in
    let size = c.lesser-more.result * x.box_bytes in
    let row = take (from + size - from) (drop from x.bytes.now) in
    let short : length row ≤ size = rw length-take (omega arith) in
    let told = rw (← c.check_row-told.ensures) at (row_before d.kinds (sides_of d.dimensions) c.part-outer.result.now 15 row) in
    omega (arith, told, short)

fits : (c : After-check_row-told) → (
    c.loop-i.i * c.args.box_bytes + (told c.check_row-told.result).place < 2 ^ 64)
fits c =
    omega (arith, placed c, (turn (goal.at.After-check_row-told c).After-lesser-more).3)

-- what is told of it, in its place
there : (c : After-map_err) → (
    told c.map_err.result ≡ moved (c.loop-i.i * c.args.box_bytes) (told c.check_row-told.result))
there c =
    let x = c.args in
    moved-code (c.loop-i.i * x.box_bytes) (told c.check_row-told.result)
    (moves c.check_row-told.result c.map_err.result (c.loop-i.i * x.box_bytes) _ c.map_err.ensures.cases (λ e y p. search rules)) (fits (goal.at.After-map_err c).After-check_row-told)

said : (c : After-map_err) → (
    let l = c.loop-i in
    let x = c.args in
    let u = x.cursor in
    told c.map_err.result
    ≡ each (child_check x.parts.description u.fanout u.parents u.index x.bytes.now x.work.now) l.i c.lesser-more.result)
unfolding number_of
said m =
    let c = m in
    let l = c.loop-i in
    let x = c.args in
    let u = x.cursor in
    let q = (u.index + l.i) / u.fanout in
    let here = l.invariant.5 c.loop-i-test.true in
    let t = turn (goal.at.After-map_err c).After-lesser-more in
    let run : Run x.parts.description x.bytes.now x.box_bytes 0 l.i c.lesser-more.result = record {
      own = c.requires.run_of.width;
      some = some_bytes c.requires.run_of;
      there = omega (arith, t.3);
    } in
    let outer : c.part-outer.result.now ≡ take x.box_bytes (drop l.place x.work.now) = c.part-outer.ensures in
    there m
    ∙ rw c.check_row-told.ensures
    (piece-said x.parts.description u.fanout u.parents u.index x.bytes.now x.work.now run q
    (outer ∙ ap (λ (place : ℕ). take x.box_bytes (drop place x.work.now)) (l.invariant.4 c.loop-i-test.true))
    (λ y low high. div-eq_of_lt-le {k = q} u.fanout {m = u.index + y} (omega (arith, l.invariant.2, here)) (omega (arith, t.2, here))))

-- the boxes from i on, in two
in_two : (c : After-lesser-more) → (let l = c.loop-i in
    let x = c.args in
    let u = x.cursor in
    let g = child_check x.parts.description u.fanout u.parents u.index x.bytes.now x.work.now in
    each g 0 x.boxes
    ≡ otherwise (each g l.i c.lesser-more.result) (each g (l.i + c.lesser-more.result) (x.boxes - (l.i + c.lesser-more.result))))
in_two c =
    let l = c.loop-i in
    let x = c.args in
    let u = x.cursor in
    let g = child_check x.parts.description u.fanout u.parents u.index x.bytes.now x.work.now in
    let more = c.lesser-more.result in
    let z : x.boxes - l.i ≡ more + (x.boxes - (l.i + more)) = omega (arith, turn c) in
    sym l.invariant.6 ∙ rw (z, each-add g l.i more (x.boxes - (l.i + more)))

pub returns-in_err-map_err : goal.returns-in_err-map_err
returns-in_err-map_err c =
    let t = (goal.at.returns-in_err-map_err c).After-map_err in
    let x = c.args in
    let from = c.loop-i.i * x.box_bytes in
    let out = left _ _ c.from_residual.ensures.1 in
    let same : told c.from_residual.result ≡ moved from (told c.check_row-told.result) = out ∙ sym (ap told c.in_err-map_err.was) ∙ there t in (
      out ∙ halts (said t) _ c.in_err-map_err.was ∙ sym (in_two (goal.at.returns-in_err-map_err c).After-lesser-more),
      omega (
        arith,
        ap (λ (q : Refusal). q.place) same,
        (turn (goal.at.returns-in_err-map_err c).After-lesser-more).3,
        moved-place from (c.lesser-more.result * x.box_bytes) (told c.check_row-told.result) (placed (goal.at.returns-in_err-map_err c).After-check_row-told),
      ),
    )

next_place : (c : After-lesser-more) → (let l = c.loop-i in
    let x = c.args in
    let place = l.place + x.box_bytes in
    (place ≤ x.cursor.parents + (x.cursor.index + (l.i + c.lesser-more.result)) * x.box_bytes) × (place ≤ most_work + most_tiles * most_box_bytes))
next_place c =
    let l = c.loop-i in
    let x = c.args in
    let after = x.cursor.index + (l.i + c.lesser-more.result) in
    let t = turn c in
    let upto : l.place + x.box_bytes ≤ x.cursor.parents + after * x.box_bytes = omega (arith, l.invariant.3, mul-le-mul_right x.box_bytes t.0) in
    (upto, omega (arith, upto, small (goal.at.After-lesser-more c).Start after (omega (arith, t.1))))

-- with more boxes to come, the row was taken whole: the next has the next parent
next_row : (c : After-lesser-more) → (let l = c.loop-i in
    let x = c.args in
    let u = x.cursor in
    let after = u.index + (l.i + c.lesser-more.result) in
    let q = (u.index + l.i) / u.fanout in
    l.i + c.lesser-more.result < x.boxes → (after ≡ (q + 1) * u.fanout) × (after / u.fanout ≡ q + 1))
next_row c more =
    let l = c.loop-i in
    let u = c.args.cursor in
    let q = (u.index + l.i) / u.fanout in
    let here = l.invariant.5 c.loop-i-test.true in
    let whole : u.index + (l.i + c.lesser-more.result) ≡ (q + 1) * u.fanout = omega (arith, here, c.lesser-more.ensures, more) in
    (whole, rw whole (mul-div_cancel (q + 1) c.requires.fanout_nonzero))

pub loop-i-preserved : goal.loop-i-preserved
loop-i-preserved c =
    let l = c.loop-i in
    let x = c.args in
    let u = x.cursor in
    let q = (u.index + l.i) / u.fanout in
    let t = turn (goal.at.loop-i-preserved c).After-lesser-more in (
      t.1,
      omega (arith, c.requires.fanout_nonzero),
      omega arith,
      (next_place (goal.at.loop-i-preserved c).After-lesser-more).0,
      (λ more. rw (next_row (goal.at.loop-i-preserved c).After-lesser-more more).1 (omega (arith, l.invariant.4 c.loop-i-test.true))),
      (λ more. let n = next_row (goal.at.loop-i-preserved c).After-lesser-more more in rw n.1 (omega (arith, n.0))),
      sym (in_two (goal.at.loop-i-preserved c).After-lesser-more ∙ goes_on (said (goal.at.loop-i-preserved c).After-map_err) _ c.in_ok-map_err.was),
    )

pub returns : goal.returns
unfolding told
returns c = (sym (none_left _ _ _ (omega arith)) ∙ c.loop-i.invariant.6, omega arith)

pub overflow_mul-place : goal.overflow_mul-place
overflow_mul-place c = omega (arith, first-place (goal.at.overflow_mul-place c).Start)

pub overflow_add-place : goal.overflow_add-place
overflow_add-place c = omega (arith, first-place (goal.at.overflow_add-place c).Start)

pub overflow_mul-row : goal.overflow_mul-row
overflow_mul-row c = omega (arith, first-row (goal.at.overflow_mul-row c).Start)

pub overflow_sub-row : goal.overflow_sub-row
overflow_sub-row c = omega (arith, first-row (goal.at.overflow_sub-row c).Start)

pub overflow_sub-row-2 : goal.overflow_sub-row-2
overflow_sub-row-2 c = omega (arith, first-row (goal.at.overflow_sub-row-2 c).Start)

pub overflow_mul-from : goal.overflow_mul-from
overflow_mul-from c = omega (arith, turn (goal.at.overflow_mul-from c).After-lesser-more)

pub overflow_mul-here : goal.overflow_mul-here
overflow_mul-here c = omega (arith, turn (goal.at.overflow_mul-here c).After-lesser-more)

pub overflow_add-here : goal.overflow_add-here
overflow_add-here c = omega (arith, turn (goal.at.overflow_add-here c).After-lesser-more)

pub slice_bounds-here-count : goal.slice_bounds-here-count
slice_bounds-here-count c = omega (arith, turn (goal.at.slice_bounds-here-count c).After-lesser-more)

pub slice_bounds-here-start : goal.slice_bounds-here-start
slice_bounds-here-start c = omega (arith, turn (goal.at.slice_bounds-here-start c).After-lesser-more)

pub slice_bounds-here-end : goal.slice_bounds-here-end
slice_bounds-here-end c = omega (arith, turn (goal.at.slice_bounds-here-end c).After-lesser-more)

pub overflow_add-i : goal.overflow_add-i
overflow_add-i c = omega (arith, turn (goal.at.overflow_add-i c).After-lesser-more)

pub overflow_add-place-in-loop-i : goal.overflow_add-place-in-loop-i
overflow_add-place-in-loop-i c = omega (arith, (next_place (goal.at.overflow_add-place-in-loop-i c).After-lesser-more).1)

pub loop-i-smaller : goal.loop-i-smaller
loop-i-smaller c = omega (arith, turn (goal.at.loop-i-smaller c).After-lesser-more)
