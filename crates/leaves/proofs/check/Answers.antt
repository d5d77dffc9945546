-- `leaves::check` meets its contract: it goes through the definition's checks in their order. Assumes nothing.
use Rattle.std.proofs.Common.{◌≤◌, arith}
use native.Mathlib.Nat.{mul-le-mul_left}
use Rattle.answers.specs.Told.{number_of}
use Rattle.answers.proofs.Told.{told-err, ok-clear, err-some}
use Rattle.description.specs.Limits.{Sizes}
use Rattle.rtree.proofs.Passed.{box-bytes-most}
use Rattle.written.specs.Writing.{told_writing}
use Rattle.written.proofs.Tree.{sizes-clear}
use Rattle.written.proofs.Telling.{refused-told}
use Rattle.leaves.proofs.Checked.{all_there, by-sizes, by_bytes, by-leaves, long, by-room, by-none}
use Rattle.leaves.proofs.check.Goals as goal

pub returns-in_err-check_sizes : goal.returns-in_err-check_sizes
returns-in_err-check_sizes c =
    let x = c.args in
    let says = c.check_sizes.ensures in
    let is = c.in_err-check_sizes.was in
    refused-told _ _ c.from_residual.ensures.1 (told-err says is)
    (by-sizes x.description x.tiles x.fanout x.leaves.now x.room (err-some says is))

pub overflow_mul-n : goal.overflow_mul-n
overflow_mul-n c =
    let x = c.args in
    let passed = ok-clear c.check_sizes.ensures c.in_ok-check_sizes.was in
    let within : Sizes x.tiles x.fanout = (sizes-clear x.description x.tiles x.fanout x.leaves.now passed).1 in
    let few : c.box_bytes-box_bytes.result ≤ 64 = rw c.box_bytes-box_bytes.ensures (box-bytes-most x.description) in
    record { fits = omega (arith, within.most, mul-le-mul_left x.tiles few) }

pub returns-in_err-when : goal.returns-in_err-when
unfolding number_of
returns-in_err-when c =
    let x = c.args in
    let sizes = ok-clear c.check_sizes.ensures c.in_ok-check_sizes.was in
    let says = rw c.box_bytes-box_bytes.ensures at c.when.ensures in
    let is = c.in_err-when.was in
    refused-told _ _ c.from_residual-in_err-when.ensures.1 (told-err says is)
    (by_bytes x.description x.tiles x.fanout x.leaves.now x.room sizes (err-some says is))

pub check_leaves-requires : goal.check_leaves-requires
unfolding number_of
check_leaves-requires c =
    let x = c.args in
    let whole = ok-clear (rw c.box_bytes-box_bytes.ensures at c.when.ensures) c.in_ok-when.was in
    all_there x.description x.tiles x.fanout x.leaves.now x.room _ whole

pub returns-in_err-check_leaves : goal.returns-in_err-check_leaves
unfolding number_of
returns-in_err-check_leaves c =
    let x = c.args in
    let sizes = ok-clear c.check_sizes.ensures c.in_ok-check_sizes.was in
    let whole = ok-clear (rw c.box_bytes-box_bytes.ensures at c.when.ensures) c.in_ok-when.was in
    let says = c.check_leaves.ensures in
    let is = c.in_err-check_leaves.was in
    refused-told _ _ c.from_residual-in_err-check_leaves.ensures.1 (told-err says is)
    (by-leaves x.description x.tiles x.fanout x.leaves.now x.room sizes whole (err-some says is))

pub returns-in_err-when-2 : goal.returns-in_err-when-2
unfolding number_of
returns-in_err-when-2 c =
    let x = c.args in
    let sizes = ok-clear c.check_sizes.ensures c.in_ok-check_sizes.was in
    let whole = ok-clear (rw c.box_bytes-box_bytes.ensures at c.when.ensures) c.in_ok-when.was in
    let sound = ok-clear c.check_leaves.ensures c.in_ok-check_leaves.was in
    let bytes = long x.description x.tiles x.fanout x.leaves.now x.room sizes whole sound _ c.box_bytes-box_bytes.ensures c.shape_of-shape.ensures in
    let says = c.when-2.ensures in
    let is = c.in_err-when-2.was in
    refused-told _ _ c.from_residual-in_err-when-2.ensures.1 (told-err says is)
    (by-room x.description x.tiles x.fanout x.leaves.now x.room sizes whole sound _ bytes (err-some says is))

pub returns : goal.returns
unfolding number_of told_writing
returns c =
    let x = c.args in
    let sizes = ok-clear c.check_sizes.ensures c.in_ok-check_sizes.was in
    let whole = ok-clear (rw c.box_bytes-box_bytes.ensures at c.when.ensures) c.in_ok-when.was in
    let sound = ok-clear c.check_leaves.ensures c.in_ok-check_leaves.was in
    let bytes = long x.description x.tiles x.fanout x.leaves.now x.room sizes whole sound _ c.box_bytes-box_bytes.ensures c.shape_of-shape.ensures in
    by-none x.description x.tiles x.fanout x.leaves.now x.room sizes whole sound _ bytes (ok-clear c.when-2.ensures c.in_ok-when-2.was)
