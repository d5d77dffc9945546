-- `converter::put_box` meets its contract. The invariant: the buffer holds the first i sides, and both places are those
-- of side i. Assumes nothing.
use Prim.Native.Nat.{ℕ, ◌+◌, ◌≤◌, ◌<◌}
use mathlib.Core.List.{List}
use mathlib.Core.Path.{◌≡◌, refl, sym, ap, ◌∙◌}
use native.Mathlib.Omega.{arith}
use lib.ListN.{length}
use lib.Seq.{length-sets}
use Rattle.answers.specs.Runs.{over}
use Rattle.description.specs.declared.Description.{Description}
use Rattle.description.specs.Kinds.{range_bytes}
use Rattle.description.specs.Description.{kind_at, side_start, sides_of, bytes_of_box}
use Rattle.description.proofs.Sides.{start_first}
use Rattle.boxes.proofs.Walking.{next_place}
use Rattle.widened.specs.Widened.{widened_kind, widened_kinds, widened_description, widened_box}
use Rattle.converter.proofs.Boxes.{next-wide, side-there, side-room, side-next}
use Rattle.converter.proofs.put_box.Goals as goal

pub loop-i-init : goal.loop-i-init
unfolding over
loop-i-init c =
    let k = c.args.description.kinds in
    (omega arith, sym (start_first k), omega (arith, start_first (widened_kinds k)), refl, refl)

module _ (d : Description) (bytes out : List ℕ) (at n : ℕ) (sides : n ≡ sides_of d.dimensions) (long : length bytes ≡ bytes_of_box d)
    (enough : at + bytes_of_box (widened_description d) ≤ length out) where
  -- the bytes of the box, and those of the widened one, by the sides that the loop goes through
  whole : length bytes ≡ side_start d.kinds n
  unfolding bytes_of_box
  whole = rw sides long

  room : at + side_start (widened_kinds d.kinds) n ≤ length out
  unfolding bytes_of_box
  room = rw sides enough

  -- side i ends inside both
  fits : (i from to : ℕ) → i < n → from ≡ side_start d.kinds i → to ≡ at + side_start (widened_kinds d.kinds) i
      → (from + range_bytes (kind_at d.kinds i) ≤ length bytes) × (to + range_bytes (widened_kind (kind_at d.kinds i)) ≤ length out)
  fits i from to h e t =
      let there = side-there d.kinds n bytes whole i h in
      let more = side-room d.kinds n bytes whole i h in
      (omega (arith, there, e), omega (arith, more, t, room))

pub put_side-requires-clause-kind_in_bounds : goal.put_side-requires-clause-kind_in_bounds
put_side-requires-clause-kind_in_bounds c =
    let l = c.loop-i in
    let x = c.args in
    (fits x.description x.bytes.now x.out.now x.at c.sides_of-n.result c.sides_of-n.ensures c.requires.bytes_len c.requires.description_in_bounds l.i l.from l.to
    c.loop-i-test.true l.invariant.1 l.invariant.2).0

pub put_side-requires-clause-kind_in_bounds_2 : goal.put_side-requires-clause-kind_in_bounds_2
put_side-requires-clause-kind_in_bounds_2 c =
    let l = c.loop-i in
    let x = c.args in
    let f = (fits x.description x.bytes.now x.out.now x.at c.sides_of-n.result c.sides_of-n.ensures c.requires.bytes_len c.requires.description_in_bounds l.i l.from l.to
    c.loop-i-test.true l.invariant.1 l.invariant.2) in
    omega (arith, f.1, l.invariant.3)

pub loop-i-preserved : goal.loop-i-preserved
loop-i-preserved c =
    let l = c.loop-i in
    let x = c.args in
    let k = x.description.kinds in
    let n = c.sides_of-n in (
      omega (arith, c.loop-i-test),
      next_place k l.i _ l.invariant.1 _ c.range_bytes-from.ensures,
      rw (c.range_bytes-to.ensures, c.widened_kind.ensures, next-wide k l.i) (omega (arith, l.invariant.2)),
      ap length c.put_side.ensures ∙ simp length-sets l.invariant.3,
      side-next k n.result x.bytes.now
          (whole x.description x.bytes.now x.out.now x.at n.result n.ensures c.requires.bytes_len c.requires.description_in_bounds)
          x.out.now x.at l.i c.loop-i-test.true l.from l.to l.invariant.1 l.invariant.2 l.out _ l.invariant.4 c.put_side.ensures,
    )

pub returns : goal.returns
unfolding widened_box
returns c =
    let l = c.loop-i in
    let all : l.i ≡ c.sides_of-n.result = omega (arith, c.loop-i-test, l.invariant.0) in
    l.invariant.4 ∙ rw (all, c.sides_of-n.ensures)

pub overflow_add-from : goal.overflow_add-from
overflow_add-from c =
    let l = c.loop-i in
    let x = c.args in
    let f = (fits x.description x.bytes.now x.out.now x.at c.sides_of-n.result c.sides_of-n.ensures c.requires.bytes_len c.requires.description_in_bounds l.i l.from l.to
    c.loop-i-test.true l.invariant.1 l.invariant.2) in
    rw c.range_bytes-from.ensures (record { fits = omega (arith, f) })

pub overflow_add-to : goal.overflow_add-to
overflow_add-to c =
    let l = c.loop-i in
    let x = c.args in
    let f = (fits x.description x.bytes.now x.out.now x.at c.sides_of-n.result c.sides_of-n.ensures c.requires.bytes_len c.requires.description_in_bounds l.i l.from l.to
    c.loop-i-test.true l.invariant.1 l.invariant.2) in
    rw (c.range_bytes-to.ensures, c.widened_kind.ensures) (record { fits = omega (arith, f) })
