-- `replay::read_sides` meets its contract. The invariant: the ends of the first i dimensions are read. Assumes nothing.
use mathlib.Core.Path.{◌≡◌, ◌∙◌}
use Prim.Native.Nat.{◌≤◌}
use native.Mathlib.Omega.{arith}
use lib.ListN.{length-set}
use Rattle.description.specs.Description.{sides_of}
use Rattle.replay.proofs.Reading.{sides-none, sides-more, sides-unread}
use Rattle.replay.proofs.read_sides.Goals as goal

pub loop-i-init : goal.loop-i-init
loop-i-init c =
    (rw c.no_box-sides.ensures, sides-none c.args.description.kinds c.args.line.now c.no_box-sides.ensures)

pub returns-in_err-range : goal.returns-in_err-range
returns-in_err-range c =
    rw c.from_residual.ensures
    (sides-unread c.args.description.kinds c.args.line.now c.loop-i.i c.loop-i.invariant.1 c.piece_from-low.ensures c.piece_from-high.ensures
    (omega (arith, c.loop-i-test.true, c.sides_of-i-end.ensures)) c.in_err-range.ensures)

pub loop-i-preserved : goal.loop-i-preserved
loop-i-preserved c =
    let few : c.sides_of-i-end.result ≤ 4 = omega (arith, c.sides_of-i-end.ensures) in (
      length-set c.loop-i.sides c.loop-i.i (record { range = c.in_ok-range.range }) ∙ c.loop-i.invariant.0,
      sides-more c.args.description.kinds c.args.line.now c.loop-i.i c.loop-i.invariant.1 c.piece_from-low.ensures c.piece_from-high.ensures
          (omega (arith, c.loop-i-test.true, few)) c.requires c.in_ok-range.ensures,
    )

pub returns : goal.returns
returns c =
    let e : c.loop-i.i ≡ sides_of c.args.description.dimensions = omega (arith, c.sides_of-i-end.ensures) in
    rw e at c.loop-i.invariant.1
