-- `parts::take_run` meets its contract: what is told of the boxes is their level's, they are stored after those before
-- them, and the state moves by. Assumes nothing.
use mathlib.Core.Path.{refl}
use Prim.Native.Nat.{◌+◌, ◌*◌, ◌≤◌}
use native.Mathlib.Nat.{mul-le-mul}
use native.Mathlib.Omega.{arith}
use lib.ListN.{length}
use borrow.Author.Tests.{lt-ltb}
use Rattle.description.specs.Limits.{most_tiles}
use Rattle.tree.specs.Shape.{most_box_bytes}
use Rattle.parts.specs.Code.Cursor.{moved}
use Rattle.parts.proofs.Front.{is-tree}
use Rattle.parts.proofs.Boxes.{boxes-taken}
use Rattle.parts.proofs.Runs.{most_bytes}
use Rattle.parts.proofs.take_run.Goals.{Start}
use Rattle.parts.proofs.take_run.Goals as goal

-- the places of boxes are small
small : (c : Start) → (let x = c.args in
    (x.cursor.index * x.box_bytes ≤ most_tiles * most_box_bytes) × (length x.bytes.now ≤ most_tiles * most_box_bytes))
small c =
    let x = c.args in
    let run = c.requires.run_of in
    let w = most_bytes run in
    let r = run.range in
    let few : x.cursor.index ≤ most_tiles = omega (arith, r.most, r.within) in
    let more : x.boxes ≤ most_tiles = omega (arith, run.few, r.most) in
    (mul-le-mul few w, omega (arith, run.size, mul-le-mul more w))

pub returns : goal.returns
returns c =
    let run = c.requires.run_of in
    record {
      room = c.store.ensures.room;
      next = λ more. rw (c.pass.ensures, c.moved-c.ensures, lt-ltb (c.args.cursor.index + c.args.boxes) c.args.cursor.count more) (refl {a = moved c.args.cursor (c.args.cursor.index + c.args.boxes) (c.args.cursor.done + length c.args.bytes.now) c.check_boxes-fault.result});
      took = λ held d F footer stated body p zero g kept r fits.
          let tree = is-tree g run.counted in
          rw (c.pass.ensures, c.moved-c.ensures)
          (boxes-taken g tree zero run.counted kept c.args.boxes c.requires.boxes_nonzero run.few r (rw run.width at run.size) fits
          (c.check_boxes-fault.ensures tree) (rw (run.width, g.description) refl) c.store.ensures refl);
    }

pub overflow_mul-to : goal.overflow_mul-to
overflow_mul-to c = omega (arith, (small (goal.at.overflow_mul-to c).Start).0)

pub overflow_add-to : goal.overflow_add-to
overflow_add-to c = omega (arith, (small (goal.at.overflow_add-to c).Start).0, c.requires.run_of.range.own)

pub overflow_add-to-2 : goal.overflow_add-to-2
overflow_add-to-2 c = omega (arith, (small (goal.at.overflow_add-to-2 c).Start).1, (small (goal.at.overflow_add-to-2 c).Start).0, c.requires.run_of.range.own)
