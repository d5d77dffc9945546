-- `writer::put_box` meets its contract. The invariant: the buffer holds the first i sides of the parent. Assumes
-- nothing.
use Prim.Native.Nat.{ℕ, suc, ◌+◌, ◌-◌, ◌≤◌, ◌<◌}
use mathlib.Core.Path.{◌≡◌, refl, sym, ap, ◌∙◌}
use mathlib.Core.List.{List}
use native.Mathlib.Omega.{arith}
use lib.ListN.{length, drop, length-drop}
use lib.Seq.{length-sets}
use Rattle.answers.specs.Runs.{over}
use Rattle.description.specs.declared.Dimension.{Dimension}
use Rattle.description.specs.declared.Description.{Description}
use Rattle.description.specs.Kinds.{range_bytes}
use Rattle.description.specs.Description.{kind_at, side_start, sides_of, bytes_of_box}
use Rattle.description.proofs.Sides.{start_first, start_up}
use Rattle.boxes.specs.Least.{around}
use Rattle.boxes.proofs.Walking.{next_place, place-fits}
use Rattle.writer.proofs.Rows.{box-past, box-next}
use Rattle.writer.proofs.put_box.Goals as goal

pub loop-i-init : goal.loop-i-init
unfolding over
loop-i-init c = (omega arith, sym (start_first c.args.description.kinds), refl, refl)

-- the bytes of a box, by the sides that the loop goes through
own : (d : Description) {b m : ℕ} → b ≡ bytes_of_box d → m ≡ sides_of d.dimensions → b ≡ side_start d.kinds m
unfolding bytes_of_box
own d e s = rw s e

-- a side ends where the box does, or before
side_before : (kinds : List Dimension) (i m : ℕ) {b side : ℕ} → b ≡ side_start kinds m → side ≡ side_start kinds i → i < m
    → side + range_bytes (kind_at kinds i) ≤ b
side_before kinds i m o e h = omega (arith, o, e, start_up kinds i m h)

pub overflow_add-at : goal.overflow_add-at
overflow_add-at c =
    let x = c.args in
    let p = c.requires.row in
    let side = side_before x.description.kinds c.loop-i.i c.sides_of-n.result (own x.description c.requires.box_bytes_value c.sides_of-n.ensures) c.loop-i.invariant.1 c.loop-i-test.true in
    record { fits = omega (arith, side, p.before, p.there) }

pub put_side-requires : goal.put_side-requires
put_side-requires c =
    let x = c.args in
    let p = c.requires.row in
    let o = own x.description c.requires.box_bytes_value c.sides_of-n.ensures in
    let side = side_before x.description.kinds c.loop-i.i c.sides_of-n.result (own x.description c.requires.box_bytes_value c.sides_of-n.ensures) c.loop-i.invariant.1 c.loop-i-test.true in
    let all : suc (x.count - 1) ≡ x.count = omega (arith, p.some) in
    -- the row stands as it stood
    let past : drop x.start c.loop-i.out ≡ drop x.start x.out.now =
    box-past x.description.kinds c.sides_of-n.result x.out.now x.at x.start x.first (x.count - 1)
    (rw (all, ← o) p.there) (rw (← o) p.before) c.loop-i.i c.loop-i-test.true c.loop-i.out c.loop-i.invariant.3 in
    record {
      side_row = rw past (record {
        some = p.some;
        inside = side;
        there = simp length-drop (omega (arith, p.there));
        numbers = λ k from to.
            rw (c.requires.box_bytes_value, c.loop-i.invariant.1) (c.requires.no_nan c.loop-i.i (omega (arith, c.loop-i-test, c.sides_of-n.ensures)) k from to);
      });
      kind_bound = omega (arith, side, p.before);
    }

pub overflow_add-side : goal.overflow_add-side
overflow_add-side c = place-fits _ _ _ c.loop-i.invariant.1 _ c.range_bytes-side.ensures (omega (arith, c.loop-i-test, c.sides_of-n.ensures))

pub loop-i-preserved : goal.loop-i-preserved
loop-i-preserved c =
    let x = c.args in
    let p = c.requires.row in
    let o = own x.description c.requires.box_bytes_value c.sides_of-n.ensures in
    let all : suc (x.count - 1) ≡ x.count = omega (arith, p.some) in (
      omega (arith, c.loop-i-test),
      next_place _ _ _ c.loop-i.invariant.1 _ c.range_bytes-side.ensures,
      ap length c.put_side.ensures ∙ simp length-sets c.loop-i.invariant.2,
      box-next x.description.kinds c.sides_of-n.result x.out.now x.at x.start x.first (x.count - 1)
          (rw (all, ← o) p.there) (rw (← o) p.before) c.loop-i.i c.loop-i-test.true c.loop-i.out c.put_side.new.out
          c.loop-i.invariant.3 (rw (c.loop-i.invariant.1, o) at c.put_side.ensures),
    )

pub returns : goal.returns
unfolding around bytes_of_box
returns c =
    let x = c.args in
    let o = own x.description c.requires.box_bytes_value c.sides_of-n.ensures in
    let all : c.loop-i.i ≡ c.sides_of-n.result = omega (arith, c.loop-i-test, c.loop-i.invariant.0) in
    c.loop-i.invariant.3 ∙ rw (all, o, c.sides_of-n.ensures)
