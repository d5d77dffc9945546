-- `parts::take_item` meets its contract: a number is the first eight bytes, and of boxes as many are taken as are there
-- and the level has left. Assumes nothing.
use mathlib.Core.Path.{◌≡◌, refl, sym}
use Prim.Native.Nat.{◌-◌, ◌*◌, ◌/◌, ◌≤◌, ◌<◌}
use native.Mathlib.Nat.{div-mul-le_self, mul-le-mul_right, le-div_iff_mul-le}
use native.Mathlib.Omega.{arith}
use lib.ListN.{length, take, length-take}
use borrow.Author.Tests.{eq-eqb, ne_eqb}
use Rattle.parts_state.specs.Code.State.{item_bytes}
use Rattle.parts.proofs.Lists.{read_first}
use Rattle.parts.proofs.Front.{is-tree, box-left}
use Rattle.parts.proofs.Held.{fewer}
use Rattle.parts.proofs.take_item.Goals.{After-lesser-boxes, Else-cursor-eq0, Then-cursor-eq0}
use Rattle.parts.proofs.take_item.Goals as goal

-- a number is there whole
eight : (c : Then-cursor-eq0) → (let bytes = c.args.bytes.now in
    (item_bytes c.args.box_bytes c.args.cursor.counted ≡ 8) × (8 ≤ length bytes) × (length (take 8 bytes) ≡ 8))
eight c =
    let is : item_bytes c.args.box_bytes c.args.cursor.counted ≡ 8 = rw (eq-eqb _ 0 c.if-cursor-eq0.true) in
    let there : 8 ≤ length c.args.bytes.now = omega (arith, is, c.requires.whole) in
    (is, there, rw length-take (omega (arith, there)))

pub take_number-requires : goal.take_number-requires
take_number-requires c =
    let e = eight (goal.at.take_number-requires c).Then-cursor-eq0 in
    record {
      box_bytes_value = c.requires.box_bytes_value;
      in_range = rw e.2 (fewer c.requires.in_range 8 e.1);
      bytes_len = e.2;
      counted_value = c.if-cursor-eq0.true;
    }

pub slice_bounds-take_number-end : goal.slice_bounds-take_number-end
slice_bounds-take_number-end c = sym (eight (goal.at.slice_bounds-take_number-end c).Then-cursor-eq0).2

pub returns-then-cursor-eq0-clause-took : goal.returns-then-cursor-eq0-clause-took
returns-then-cursor-eq0-clause-took c = λ held d F footer stated body p g r fits.
    let e = eight (goal.at.returns-then-cursor-eq0-clause-took c).Then-cursor-eq0 in
    record {
      taken = 8;
      least = omega (arith, e.0);
      few = e.1;
      holds =
          rw e.2 at (c.take_number.ensures held c.args.work.now refl d F footer stated body p c.requires.number_value g
          c.requires.kept_value (read_first body p c.args.bytes.now r 8 e.1) (omega (arith, e, fits)));
    }

-- a box has its own bytes, which are some
box-item : (c : Else-cursor-eq0) → (let x = c.args in
    (item_bytes x.box_bytes x.cursor.counted ≡ x.box_bytes) × (0 < x.box_bytes) × (0 < x.cursor.counted))
box-item c =
    let some : 0 < c.args.cursor.counted = omega (arith, c.if-cursor-eq0.false) in
    let is : item_bytes c.args.box_bytes c.args.cursor.counted ≡ c.args.box_bytes = rw (ne_eqb c.args.cursor.counted 0 (λ z. omega (arith, some))) in
    (is, omega (arith, is, c.requires.in_range.part), some)

pub returns-then-cursor-clause-took : goal.returns-then-cursor-clause-took
returns-then-cursor-clause-took c = λ held d F footer stated body p g r fits.
    let own = box-item (goal.at.returns-then-cursor-clause-took c).Else-cursor-eq0 in
    let left = box-left g (is-tree g own.2) own.2 (omega (arith, fits, own, c.requires.whole)) in
    absurd (omega (arith, left, c.if-cursor.true))

-- how many boxes are taken
taken : (c : After-lesser-boxes) → (let x = c.args in let from = x.bytes.now in
    let whole = c.lesser-boxes.result * x.box_bytes in
    (whole ≤ length from) × (0 < c.lesser-boxes.result) × (c.lesser-boxes.result ≤ x.cursor.count - x.cursor.index)
    × (length (take whole from) ≡ whole) × (x.box_bytes ≤ whole))
taken c =
    let x = c.args in
    let from = length x.bytes.now in
    let b = x.box_bytes in
    let own = box-item (goal.at.After-lesser-boxes c).Else-cursor-eq0 in
    let l = c.lesser-boxes.ensures in
    let left = c.if-cursor.false in
    let up_to : c.lesser-boxes.result ≤ from / b = omega (arith, l) in
    let inside : c.lesser-boxes.result * b ≤ from = omega (arith, mul-le-mul_right b up_to, div-mul-le_self from b) in
    let one : 1 ≤ from / b = (le-div_iff_mul-le {k = b} {x = 1} {y = from} own.1).1 (omega (arith, own.0, c.requires.whole)) in
    let some : 0 < c.lesser-boxes.result = omega (arith, l, one, left) in (
      inside,
      some,
      omega (arith, l),
      rw length-take (omega (arith, inside)),
      omega (arith, mul-le-mul_right b some),
    )

pub take_boxes-requires : goal.take_boxes-requires
take_boxes-requires c =
    let t = taken (goal.at.take_boxes-requires c).After-lesser-boxes in record {
      run_of = record {
        width = c.requires.box_bytes_value;
        range = rw t.3 (fewer c.requires.in_range _ t.0);
        size = t.3;
        few = t.2;
        counted = (box-item (goal.at.take_boxes-requires c).Else-cursor-eq0).2;
      };
      boxes_nonzero = t.1;
    }

pub returns-clause-room : goal.returns-clause-room
returns-clause-room c = c.take_boxes.ensures.room

pub returns-clause-took : goal.returns-clause-took
returns-clause-took c = λ held d F footer stated body p g r fits.
    let m = c.lesser-boxes.result * c.args.box_bytes in
    let o = taken (goal.at.returns-clause-took c).After-lesser-boxes in
    let own = box-item (goal.at.returns-clause-took c).Else-cursor-eq0 in
    record {
      taken = m;
      least = omega (arith, own.0, o.4);
      few = o.0;
      holds =
          rw o.3 at (c.take_boxes.ensures.took held d F footer stated body p c.requires.number_value g
          c.requires.kept_value (read_first body p c.args.bytes.now r m o.0) (omega (arith, o, fits)));
    }

pub nonzero_div-bytes : goal.nonzero_div-bytes
nonzero_div-bytes c = omega (arith, (box-item (goal.at.nonzero_div-bytes c).Else-cursor-eq0).1)

pub overflow_mul-whole : goal.overflow_mul-whole
overflow_mul-whole c = omega (arith, taken (goal.at.overflow_mul-whole c).After-lesser-boxes)

pub slice_bounds-take_boxes-end : goal.slice_bounds-take_boxes-end
slice_bounds-take_boxes-end c = sym (taken (goal.at.slice_bounds-take_boxes-end c).After-lesser-boxes).3
