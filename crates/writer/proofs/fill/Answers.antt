-- `writer::fill` meets its contract. The invariant: from the level at distance j - 1 on the buffer has what the body has
-- there (`Down`), since it has the leaves at their place. Assumes nothing.
use Prim.Native.Nat.{ℕ, suc, ◌+◌, ◌-◌, ◌≤◌, ◌<◌}
use mathlib.Core.Path.{◌≡◌, ap, ◌∙◌}
use mathlib.Core.Bool.{cond}
use mathlib.Core.List.{List}
use native.Mathlib.Omega.{arith}
use lib.Dec.{leb}
use lib.ListN.{length}
use lib.Seq.{sets, length-sets}
use Rattle.order.specs.Little.{bytes_of}
use Rattle.description.specs.declared.Description.{Description}
use Rattle.description.specs.Description.{bytes_of_box}
use Rattle.tree.specs.declared.Shape.{Shape}
use Rattle.tree.specs.Shape.{boxes, height, levels, level_start, shape_of, place_in, count_in}
use Rattle.tree.proofs.Limits.{levels-most}
use Rattle.tree.proofs.Places.{leaves-end, level-inside}
use Rattle.tree.proofs.Table.{shape-levels, start-at, count_at}
use Rattle.rtree.proofs.Passed.{box-bytes-most}
use Rattle.writer.specs.Code.Rows.{Filling}
use Rattle.order.proofs.Stores.{number-stored, bytes-stored}
use Rattle.writer.proofs.Levels.{start-some, Down, begun, levels-there, level-numbers, above, ended}
use Rattle.writer.proofs.fill.Goals as goal

-- the shape's numbers
module _ (d : Description) (n f : ℕ) (leaves out : List ℕ) (z : Filling d n f leaves out) (s : Shape) (b : ℕ)
    (own : b ≡ bytes_of_box d) (is : s ≡ shape_of f n b) where
  all-levels : s.levels ≡ levels f n
  all-levels = rw (is, own) (shape-levels z.sizes (bytes_of_box d) (box-bytes-most d))

  start_is : (j : ℕ) → j ≤ height f n → place_in s.table j ≡ level_start f n (bytes_of_box d) j
  start_is j h = rw (is, own) (start-at z.sizes (bytes_of_box d) (box-bytes-most d) j h)

  count-is : (j : ℕ) → j ≤ height f n → count_in s.table j ≡ boxes f n j
  count-is j h = rw (is, own) (count_at z.sizes (bytes_of_box d) (box-bytes-most d) j h)

  leaves-start : place_in s.table 0 ≡ level_start f n (bytes_of_box d) 0
  leaves-start = start_is 0 (omega arith)

  leaves-there : place_in s.table 0 + length leaves ≤ length out
  leaves-there = omega (arith, leaves-start, z.whole, z.room, leaves-end f n (bytes_of_box d))

  counted : 8 ≤ place_in s.table 0
  counted = omega (arith, leaves-start, start-some f n (bytes_of_box d) 0)

  -- the leaves' count, and the leaves
  module _ (start : ℕ) (here : start ≡ place_in s.table 0) (mid : List ℕ)
      (put : mid ≡ cond (leb (start - 8 + 8) (length out)) (sets out (start - 8) (bytes_of 8 n)) out) where
    count-put : mid ≡ sets out (place_in s.table 0 - 8) (bytes_of 8 n)
    count-put = number-stored _ _ _ 8 _ (omega (arith, counted, leaves-there)) (rw here at put)

    leaves-put : (new : List ℕ) → new ≡ cond (leb (start + length leaves) (length mid)) (sets mid start leaves) mid → Down d n f leaves out 0 new
    leaves-put new e =
        let long : length mid ≡ length out = ap length count-put ∙ simp length-sets in
        let copied : new ≡ sets mid (place_in s.table 0) leaves =
        bytes-stored mid new (place_in s.table 0) leaves (omega (arith, long, leaves-there)) (rw here at e) in
        begun d n f leaves out z mid new (rw leaves-start at count-put) (rw leaves-start at copied)

  -- the levels that the loop goes through
  below_root : (j : ℕ) → 1 ≤ j → j < s.levels → (suc (j - 1) ≡ j) × (j - 1 < height f n)
  unfolding levels
  below_root j some h = (omega arith, omega (arith, all-levels))

  -- the fanout and the level number
  module _ (j : ℕ) (now : List ℕ) (down : Down d n f leaves out j now) where
    long : 8 ≤ length now
    long = omega (arith, down.long, z.room, level-inside f n (bytes_of_box d) 0 (omega arith), start-some f n (bytes_of_box d) 0)

    fanout-put : (mid : List ℕ) → mid ≡ cond (leb (0 + 4) (length now)) (sets now 0 (bytes_of 4 f)) now → mid ≡ sets now 0 (bytes_of 4 f)
    fanout-put mid e = number-stored now mid 0 4 f (omega (arith, long)) e

    levels-put : (mid new : List ℕ) → mid ≡ sets now 0 (bytes_of 4 f)
        → new ≡ cond (leb (4 + 4) (length mid)) (sets mid 4 (bytes_of 4 s.levels)) mid → new ≡ sets mid 4 (bytes_of 4 s.levels)
    levels-put mid new e p =
        let same : length mid ≡ length now = ap length e ∙ simp length-sets in
        number-stored mid new 4 4 s.levels (omega (arith, same, long)) p

pub overflow_sub-start : goal.overflow_sub-start
overflow_sub-start c = let x = c.args in omega (arith, c.place_in-start.ensures, counted x.description x.tiles x.fanout x.leaves.now x.out.now c.requires c.shape_of-shape.result c.box_bytes-box_bytes.result c.box_bytes-box_bytes.ensures c.shape_of-shape.ensures)

pub loop-j-init : goal.loop-j-init
unfolding levels
loop-j-init c = let x = c.args in (omega arith, omega (arith, all-levels x.description x.tiles x.fanout x.leaves.now x.out.now c.requires c.shape_of-shape.result c.box_bytes-box_bytes.result c.box_bytes-box_bytes.ensures c.shape_of-shape.ensures), λ first z down. down)

pub put_level-requires : goal.put_level-requires
put_level-requires c =
    let x = c.args in
    let j = c.loop-j.j in
    let come : Down x.description x.tiles x.fanout x.leaves.now x.out.now (j - 1) c.loop-j.out =
    c.loop-j.invariant.2 x.out.now c.requires (leaves-put x.description x.tiles x.fanout x.leaves.now x.out.now c.requires c.shape_of-shape.result c.box_bytes-box_bytes.result c.box_bytes-box_bytes.ensures c.shape_of-shape.ensures c.place_in-start.result c.place_in-start.ensures c.put_u64.new.out c.put_u64.ensures c.copy.new.out c.copy.ensures) in
    let r = below_root x.description x.tiles x.fanout x.leaves.now x.out.now c.requires c.shape_of-shape.result c.box_bytes-box_bytes.result c.box_bytes-box_bytes.ensures c.shape_of-shape.ensures j c.loop-j.invariant.0 c.loop-j-test.true in
    let start : (i : ℕ) → i ≤ height x.fanout x.tiles
    → place_in c.shape_of-shape.result.table i ≡ level_start x.fanout x.tiles (bytes_of_box x.description) i = start_is x.description x.tiles x.fanout x.leaves.now x.out.now c.requires c.shape_of-shape.result c.box_bytes-box_bytes.result c.box_bytes-box_bytes.ensures c.shape_of-shape.ensures in
    let count : (i : ℕ) → i ≤ height x.fanout x.tiles → count_in c.shape_of-shape.result.table i ≡ boxes x.fanout x.tiles i = count-is x.description x.tiles x.fanout x.leaves.now x.out.now c.requires c.shape_of-shape.result c.box_bytes-box_bytes.result c.box_bytes-box_bytes.ensures c.shape_of-shape.ensures in
    let there = levels-there x.description x.tiles x.fanout x.leaves.now x.out.now c.requires (j - 1) c.loop-j.out come r.1 in
    let numbers = level-numbers x.description x.tiles x.fanout x.leaves.now x.out.now c.requires (j - 1) c.loop-j.out come r.1 in
    record {
      j_nonzero = omega (arith, c.loop-j.invariant.0);
      levels = rw (start j (omega (arith, r)), count j (omega (arith, r)), start (j - 1) (omega (arith, r)), count (j - 1) (omega (arith, r)))
          (rw r.0 at there);
      no_nan = rw (start (j - 1) (omega (arith, r)), count (j - 1) (omega (arith, r))) numbers;
    }

pub loop-j-preserved : goal.loop-j-preserved
loop-j-preserved c =
    let x = c.args in
    let l = c.loop-j in
    let j = l.j in
    let r = below_root x.description x.tiles x.fanout x.leaves.now x.out.now c.requires c.shape_of-shape.result c.box_bytes-box_bytes.result c.box_bytes-box_bytes.ensures c.shape_of-shape.ensures j l.invariant.0 c.loop-j-test.true in
    let start : (i : ℕ) → i ≤ height x.fanout x.tiles
    → place_in c.shape_of-shape.result.table i ≡ level_start x.fanout x.tiles (bytes_of_box x.description) i = start_is x.description x.tiles x.fanout x.leaves.now x.out.now c.requires c.shape_of-shape.result c.box_bytes-box_bytes.result c.box_bytes-box_bytes.ensures c.shape_of-shape.ensures in
    let count : (i : ℕ) → i ≤ height x.fanout x.tiles → count_in c.shape_of-shape.result.table i ≡ boxes x.fanout x.tiles i = count-is x.description x.tiles x.fanout x.leaves.now x.out.now c.requires c.shape_of-shape.result c.box_bytes-box_bytes.result c.box_bytes-box_bytes.ensures c.shape_of-shape.ensures in
    let next : j + 1 - 1 ≡ suc (j - 1) = omega (arith, r.0) in
    let e = rw (start j (omega (arith, r)), count j (omega (arith, r)), start (j - 1) (omega (arith, r)), count (j - 1) (omega (arith, r))) at c.put_level.ensures in (
      omega (arith, l.invariant.0),
      omega (arith, c.loop-j-test),
      λ first z down. rw next (above x.description x.tiles x.fanout x.leaves.now first z (j - 1) l.out (l.invariant.2 first z down) r.1 _ (rw r.0 e)),
    )

pub overflow_cast-levels : goal.overflow_cast-levels
overflow_cast-levels c = let x = c.args in record { fits = omega (arith, all-levels x.description x.tiles x.fanout x.leaves.now x.out.now c.requires c.shape_of-shape.result c.box_bytes-box_bytes.result c.box_bytes-box_bytes.ensures c.shape_of-shape.ensures, levels-most c.requires.sizes) }

pub returns : goal.returns
unfolding levels
returns c =
    let x = c.args in
    let l = c.loop-j in
    let come : Down x.description x.tiles x.fanout x.leaves.now x.out.now (l.j - 1) l.out =
    l.invariant.2 x.out.now c.requires (leaves-put x.description x.tiles x.fanout x.leaves.now x.out.now c.requires c.shape_of-shape.result c.box_bytes-box_bytes.result c.box_bytes-box_bytes.ensures c.shape_of-shape.ensures c.place_in-start.result c.place_in-start.ensures c.put_u64.new.out c.put_u64.ensures c.copy.new.out c.copy.ensures) in
    let all = all-levels x.description x.tiles x.fanout x.leaves.now x.out.now c.requires c.shape_of-shape.result c.box_bytes-box_bytes.result c.box_bytes-box_bytes.ensures c.shape_of-shape.ensures in
    let root : l.j - 1 ≡ height x.fanout x.tiles = omega (arith, l.invariant.0, l.invariant.1, c.loop-j-test, all) in
    let e = fanout-put x.description x.tiles x.fanout x.leaves.now x.out.now c.requires c.shape_of-shape.result c.box_bytes-box_bytes.result c.box_bytes-box_bytes.ensures c.shape_of-shape.ensures _ _ come c.put_u32.new.out c.put_u32.ensures in
    ended x.description x.tiles x.fanout x.leaves.now x.out.now c.requires l.out c.put_u32.new.out c.put_u32-2.new.out
    (rw root at come) e (rw all at (levels-put x.description x.tiles x.fanout x.leaves.now x.out.now c.requires c.shape_of-shape.result c.box_bytes-box_bytes.result c.box_bytes-box_bytes.ensures c.shape_of-shape.ensures _ _ come _ _ e c.put_u32-2.ensures))
