-- `text::put_field` meets its contract: a number has at most 20 digits, and the byte goes after them. Assumes nothing.
use Prim.Native.Nat.{◌+◌, ◌<◌, ◌≤◌}
use lib.ListN.{length}
use native.Mathlib.Omega.{arith}
use Rattle.decimal.proofs.Written.{twenty-digits}
use Rattle.text.proofs.Writing.{field_room, field-count, field_stored}
use Rattle.text.proofs.put_field.Goals as goal

pub returns : goal.returns
returns c =
    let w = c in
    let s = w in
    let x = s.args in (
      field-count x.n x.end (omega arith) x.out.now x.at s.requires w.write_u64-count.ensures.0 w.write_u64-count.ensures.1,
      field_stored x.n x.end (omega arith) x.out.now x.at s.requires w.write_u64-count.ensures.0 w.write_u64-count.ensures.1,
    )

pub overflow_add-last : goal.overflow_add-last
overflow_add-last c =
    let few : c.write_u64-count.result ≤ 20
    = omega (arith, c.write_u64-count.ensures.0, twenty-digits c.args.n (omega arith)) in
    omega (arith, few, c.requires)

pub bounds-out-last : goal.bounds-out-last
bounds-out-last c =
    let room : c.args.at + c.write_u64-count.result < length c.write_u64-count.new.out
    = let s = c in
    let x = s.args in
    field_room x.n x.end (omega arith) x.out.now x.at s.requires c.write_u64-count.ensures.0 c.write_u64-count.ensures.1 in
    omega (arith, room)

pub overflow_add-result : goal.overflow_add-result
overflow_add-result c =
    let few : c.write_u64-count.result ≤ 20
    = omega (arith, c.write_u64-count.ensures.0, twenty-digits c.args.n (omega arith)) in
    omega (arith, few)
