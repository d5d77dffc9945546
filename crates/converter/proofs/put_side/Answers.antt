-- `converter::put_side` meets its contract: each way by what it stores. Assumes nothing.
use Prim.Native.Nat.{◌+◌, ◌≤◌}
use lib.ListN.{length}
use Rattle.widened.specs.Widened.{widened_side}
use Rattle.converter.proofs.Sides.{widened-stored, copied-stored, sixteen-kinds}
use Rattle.converter.proofs.put_side.Goals as goal

pub returns-in-Float32 : goal.returns-in-Float32
returns-in-Float32 c =
    let there : c.args.from + 8 ≤ length c.args.bytes.now = rw c.in-Float32.is at c.requires.kind_in_bounds in
    let room : c.args.at + 16 ≤ length c.args.out.now = rw c.in-Float32.is at c.requires.kind_in_bounds_2 in
    let x = c.args in
    rw c.in-Float32.is (widened-stored x.out.now x.bytes.now x.at x.from _ there room c.put_widened.ensures)

pub returns-in-Int32 : goal.returns-in-Int32
unfolding widened_side
returns-in-Int32 c =
    let there : c.args.from + 8 ≤ length c.args.bytes.now = rw c.in-Int32.is at c.requires.kind_in_bounds in
    let room : c.args.at + 8 ≤ length c.args.out.now = rw c.in-Int32.is at c.requires.kind_in_bounds_2 in
    let x = c.args in
    rw c.in-Int32.is (copied-stored x.out.now x.bytes.now x.at x.from 8 _ there room c.put_eight.ensures)

pub returns-in-Int64 : goal.returns-in-Int64
returns-in-Int64 c =
    let there : c.args.from + 16 ≤ length c.args.bytes.now = rw (sixteen-kinds c.args.kind c.in-Int64.is).old at c.requires.kind_in_bounds in
    let room : c.args.at + 16 ≤ length c.args.out.now = rw (sixteen-kinds c.args.kind c.in-Int64.is).new at c.requires.kind_in_bounds_2 in
    let x = c.args in
    rw ((sixteen-kinds c.args.kind c.in-Int64.is).same x.bytes.now x.from)
    (copied-stored x.out.now x.bytes.now x.at x.from 16 _ there room c.put_sixteen.ensures)
