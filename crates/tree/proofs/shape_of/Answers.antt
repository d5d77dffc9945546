-- `tree::shape_of` meets its contract: outside the limits zeros, and within them what the recursion from the leaves
-- gives back and stores, over zeros. Assumes nothing.
use mathlib.Core.Path.{◌≡◌, sym, ◌∙◌}
use Prim.Native.Nat.{ℕ, ◌+◌, ◌*◌, ◌≤◌}
use native.Mathlib.Nat.{zero-add}
use native.Mathlib.Omega.{arith}
use Rattle.answers.proofs.Laid.{sets-whole}
use Rattle.description.specs.Limits.{most_tiles, Sizes}
use Rattle.tree.specs.Shape.{levels, all_boxes, body_bytes, most_box_bytes, places_and_counts}
use Rattle.tree.proofs.Limits.{sizes, levels-most, body-small}
use Rattle.tree.proofs.Table.{shape-outside, shape-inside}
use Rattle.tree.proofs.shape_of.Goals as goal

pub returns-then-outside_limits : goal.returns-then-outside_limits
returns-then-outside_limits c = shape-outside _ _ _ (sym c.outside_limits.ensures ∙ c.if-outside_limits.true)

-- within the limits, past the test
pub fill-filled-requires-clause-count_bound : goal.fill-filled-requires-clause-count_bound
fill-filled-requires-clause-count_bound c =
    let x = c.args in
    let s : Sizes x.tiles x.fanout × (x.box_bytes ≤ most_box_bytes)
    = sizes _ _ _ (sym c.outside_limits.ensures ∙ c.if-outside_limits.false) in
    omega (arith, levels-most s.0)

small : (f n b l all : ℕ) → Sizes n f × (b ≤ most_box_bytes) → l ≡ 0 + levels f n → all ≡ all_boxes f n
    → 8 + 8 * l + b * all ≤ 208 + most_box_bytes * (25 * most_tiles)
unfolding body_bytes
small f n b l all s e e' = rw (e, e', zero-add) (body-small s.0 b s.1)

pub overflow_mul-result : goal.overflow_mul-result
overflow_mul-result c =
    let x = c.args in
    let s : Sizes x.tiles x.fanout × (x.box_bytes ≤ most_box_bytes)
    = sizes _ _ _ (sym c.outside_limits.ensures ∙ c.if-outside_limits.false) in
    let e = c.fill-filled.ensures in
    omega (arith, small x.fanout x.tiles x.box_bytes _ _ s e.levels_value e.boxes_value)

pub overflow_add-result : goal.overflow_add-result
overflow_add-result c =
    let x = c.args in
    let s : Sizes x.tiles x.fanout × (x.box_bytes ≤ most_box_bytes)
    = sizes _ _ _ (sym c.outside_limits.ensures ∙ c.if-outside_limits.false) in
    let e = c.fill-filled.ensures in
    omega (arith, small x.fanout x.tiles x.box_bytes _ _ s e.levels_value e.boxes_value)

pub overflow_mul-result-2 : goal.overflow_mul-result-2
overflow_mul-result-2 c =
    let x = c.args in
    let s : Sizes x.tiles x.fanout × (x.box_bytes ≤ most_box_bytes)
    = sizes _ _ _ (sym c.outside_limits.ensures ∙ c.if-outside_limits.false) in
    let e = c.fill-filled.ensures in
    omega (arith, small x.fanout x.tiles x.box_bytes _ _ s e.levels_value e.boxes_value)

pub overflow_add-result-2 : goal.overflow_add-result-2
overflow_add-result-2 c =
    let x = c.args in
    let s : Sizes x.tiles x.fanout × (x.box_bytes ≤ most_box_bytes)
    = sizes _ _ _ (sym c.outside_limits.ensures ∙ c.if-outside_limits.false) in
    let e = c.fill-filled.ensures in
    omega (arith, small x.fanout x.tiles x.box_bytes _ _ s e.levels_value e.boxes_value)

pub returns : goal.returns
unfolding body_bytes
returns c =
    let x = c.args in
    let s : Sizes x.tiles x.fanout × (x.box_bytes ≤ most_box_bytes)
    = sizes _ _ _ (sym c.outside_limits.ensures ∙ c.if-outside_limits.false) in
    let e = c.fill-filled.ensures in
    rw (e.levels_value, e.boxes_value, e.table_after, zero-add, sets-whole _ (places_and_counts x.fanout x.tiles x.box_bytes))
    (sym (shape-inside s.0 _ s.1))
