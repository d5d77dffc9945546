-- `rows::next_apart` meets its contract: up to the place no box has a fault, whatever the number of a box outside is. Assumes nothing.
use mathlib.Core.Path.{◌≡◌, sym, ◌∙◌}
use Prim.Native.Nat.{◌+◌, ◌-◌, ◌≤◌, ◌<◌}
use native.Mathlib.Omega.{arith}
use lib.ListN.{length, take, drop}
use Rattle.description.specs.Description.{sides_of, side_start}
use Rattle.boxes.specs.Boxes.{all}
use Rattle.rows.specs.Code.Row.{sound_inside}
use Rattle.rows.proofs.Within.{no_row, row_done, clear-passes}
use Rattle.rows.proofs.next_apart.Goals as goal

pub returns-then-box_bytes-eq0 : goal.returns-then-box_bytes-eq0
returns-then-box_bytes-eq0 c number before =
    let a = c.args in
    no_row a.kinds (sides_of a.dimensions) a.row.now a.outer.now number (sym c.look_around-around.ensures.0 ∙ c.if-box_bytes-eq0.true)

pub loop-at-preserved : goal.loop-at-preserved
loop-at-preserved c =
    let a = c.args in
    let m = sides_of a.dimensions in
    let b = side_start a.kinds m in
    let bytes = take (c.loop-at.at + b - c.loop-at.at) (drop c.loop-at.at a.row.now) in
    let size = c.look_around-around.ensures.0 in
    let some : 0 < b = omega (arith, size, c.if-box_bytes-eq0.false) in
    let more : b ≤ length a.row.now - c.loop-at.at = omega (arith, c.loop-at-test, size) in
    let tested : c.box_within.result ≡ all (sound_inside a.kinds bytes a.outer.now) 0 m
    = c.box_within.ensures ∙ rw (size, c.sides_of-n.ensures) in
    let on = c.loop-at.invariant in
    (omega (arith, on.0), omega (arith, on.1, c.loop-at-test), λ number before. rw size (clear-passes (on.2 number before) some more (sym tested ∙ c.if-not-box_within.false)))

pub returns : goal.returns
returns c number before =
    let a = c.args in
    let size = c.look_around-around.ensures.0 in
    let some : 0 < side_start a.kinds (sides_of a.dimensions) = omega (arith, size, c.if-box_bytes-eq0.false) in
    row_done (c.loop-at.invariant.2 number before) some (omega (arith, c.loop-at-test, size))
