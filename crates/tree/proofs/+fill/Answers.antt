-- `tree::fill` meets its contract, by recursion up to the root: the measure is the number of levels from here on. What
-- is stored and given back is that of the levels above with this level's own before it; the sums are parts of the
-- body.
-- Assumes nothing.
use Prim.Native.Nat.{ℕ, ◌+◌, ◌*◌, ◌≤◌, ◌<◌}
use mathlib.Core.Path.{◌≡◌, sym}
use native.Mathlib.Omega.{arith}
use Rattle.description.specs.Limits.{Sizes, most_tiles}
use Rattle.tree.specs.Shape.{up, levels, all_boxes, level_start, most_box_bytes}
use Rattle.tree.proofs.Limits.{above-sizes, boxes-small, body-small}
use Rattle.tree.proofs.Places.{leaves-end, one-level, one-box, one-start, levels-up, all-boxes-up, start-next}
use Rattle.tree.proofs.Table.{store-root, store-level}
use Rattle.tree.proofs.+fill.Goals as goal

near : (f c d : ℕ) → d + levels f c ≤ 25 → d ≤ 24
unfolding levels
near f c d h = omega arith

-- what the code adds up, from what the level above gives back, is this level's; and it is small
record Sums (f c b place boxes next : ℕ) : Type 0 where
  place_is : place + next * b + 8 ≡ level_start f c b 0
  boxes_are : boxes + c ≡ all_boxes f c
  place_small : level_start f c b 0 ≤ 208 + most_box_bytes * (25 * most_tiles)
  boxes_few : all_boxes f c ≤ 25 * most_tiles

sums : (f c b place boxes next : ℕ) → Sizes c f → b ≤ most_box_bytes → 1 < c → next ≡ up f c
    → place ≡ level_start f next b 0 → boxes ≡ all_boxes f next → Sums f c b place boxes next
sums f c b place boxes next p hb hc up-is place-is boxes-are = record {
  place_is = rw (place-is, up-is) (sym (start-next f c p.least hc b));
  boxes_are = rw (boxes-are, up-is) (omega (arith, all-boxes-up f c p.least hc));
  place_small = omega (arith, leaves-end f c b, body-small p b hb);
  boxes_few = omega (arith, boxes-small p);
}

-- ---- the root
pub bounds-table-at : goal.bounds-table-at
bounds-table-at t c = omega (arith, near _ _ _ c.requires.count_bound)

pub bounds-table-at-then-count-eq1 : goal.bounds-table-at-then-count-eq1
bounds-table-at-then-count-eq1 t c = omega (arith, near _ _ _ c.requires.count_bound)

pub returns-then-count-eq1-clause-levels_value : goal.returns-then-count-eq1-clause-levels_value
returns-then-count-eq1-clause-levels_value t c =
    let x = c.args in
    omega (arith, one-level x.fanout x.count c.if-count-eq1.true)

pub returns-then-count-eq1-clause-boxes_value : goal.returns-then-count-eq1-clause-boxes_value
returns-then-count-eq1-clause-boxes_value t c =
    let x = c.args in
    sym (one-box x.fanout x.count c.if-count-eq1.true)

pub returns-then-count-eq1-clause-place_value : goal.returns-then-count-eq1-clause-place_value
returns-then-count-eq1-clause-place_value t c =
    let x = c.args in
    sym (one-start x.fanout x.count c.if-count-eq1.true x.box_bytes)

pub returns-then-count-eq1-clause-table_after : goal.returns-then-count-eq1-clause-table_after
returns-then-count-eq1-clause-table_after t c =
    let x = c.args in
    store-root x.table.now x.fanout x.box_bytes x.count x.distance c.if-count-eq1.true

-- ---- below the root
pub fill-filled-requires : goal.fill-filled-requires
fill-filled-requires t c =
    let x = c.args in
    let p = c.requires in
    let more : 1 < x.count = omega (arith, c.if-count-eq1.false, p.sizes.some) in
    let l = levels-up x.fanout x.count p.sizes.least more in
    rw c.above-next.ensures
    (omega (arith, l, c.decreases), (above-sizes p.sizes, (p.box_bytes_le_most_box_bytes, omega (arith, l, p.count_bound))))

pub overflow_mul-place : goal.overflow_mul-place
overflow_mul-place t c =
    let x = c.args in
    let p = c.requires in
    let e = c.fill-filled.ensures in
    let more : 1 < x.count = omega (arith, c.if-count-eq1.false, p.sizes.some) in
    let s = sums _ _ _ _ _ _ p.sizes p.box_bytes_le_most_box_bytes more c.above-next.ensures e.place_value e.boxes_value in
    omega (arith, s.place_is, s.place_small)

pub overflow_add-place : goal.overflow_add-place
overflow_add-place t c =
    let x = c.args in
    let p = c.requires in
    let e = c.fill-filled.ensures in
    let more : 1 < x.count = omega (arith, c.if-count-eq1.false, p.sizes.some) in
    let s = sums _ _ _ _ _ _ p.sizes p.box_bytes_le_most_box_bytes more c.above-next.ensures e.place_value e.boxes_value in
    omega (arith, s.place_is, s.place_small)

pub overflow_add-place-2 : goal.overflow_add-place-2
overflow_add-place-2 t c =
    let x = c.args in
    let p = c.requires in
    let e = c.fill-filled.ensures in
    let more : 1 < x.count = omega (arith, c.if-count-eq1.false, p.sizes.some) in
    let s = sums _ _ _ _ _ _ p.sizes p.box_bytes_le_most_box_bytes more c.above-next.ensures e.place_value e.boxes_value in
    omega (arith, s.place_is, s.place_small)

pub bounds-table-at-2 : goal.bounds-table-at-2
bounds-table-at-2 t c = omega (arith, near _ _ _ c.requires.count_bound)

pub overflow_add-result-2 : goal.overflow_add-result-2
overflow_add-result-2 t c =
    let x = c.args in
    let p = c.requires in
    let e = c.fill-filled.ensures in
    let more : 1 < x.count = omega (arith, c.if-count-eq1.false, p.sizes.some) in
    let s = sums _ _ _ _ _ _ p.sizes p.box_bytes_le_most_box_bytes more c.above-next.ensures e.place_value e.boxes_value in
    omega (arith, s.boxes_are, s.boxes_few)

pub returns-clause-levels_value : goal.returns-clause-levels_value
returns-clause-levels_value t c =
    let x = c.args in
    let p = c.requires in
    let more : 1 < x.count = omega (arith, c.if-count-eq1.false, p.sizes.some) in
    omega (arith, c.fill-filled.ensures.levels_value, rw (← c.above-next.ensures) at (levels-up x.fanout x.count p.sizes.least more))

pub returns-clause-boxes_value : goal.returns-clause-boxes_value
returns-clause-boxes_value t c =
    let x = c.args in
    let p = c.requires in
    let e = c.fill-filled.ensures in
    let more : 1 < x.count = omega (arith, c.if-count-eq1.false, p.sizes.some) in
    let s = sums _ _ _ _ _ _ p.sizes p.box_bytes_le_most_box_bytes more c.above-next.ensures e.place_value e.boxes_value in
    s.boxes_are

pub returns-clause-place_value : goal.returns-clause-place_value
returns-clause-place_value t c =
    let x = c.args in
    let p = c.requires in
    let e = c.fill-filled.ensures in
    let more : 1 < x.count = omega (arith, c.if-count-eq1.false, p.sizes.some) in
    let s = sums _ _ _ _ _ _ p.sizes p.box_bytes_le_most_box_bytes more c.above-next.ensures e.place_value e.boxes_value in
    s.place_is

pub returns-clause-table_after : goal.returns-clause-table_after
returns-clause-table_after t c =
    let x = c.args in
    let p = c.requires in
    let e = c.fill-filled.ensures in
    let more : 1 < x.count = omega (arith, c.if-count-eq1.false, p.sizes.some) in
    let s = sums _ _ _ _ _ _ p.sizes p.box_bytes_le_most_box_bytes more c.above-next.ensures e.place_value e.boxes_value in
    rw (s.place_is, e.table_after, c.above-next.ensures)
    (store-level x.table.now x.fanout x.box_bytes x.count x.distance p.sizes.least more)
