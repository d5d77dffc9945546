-- `replay::newlines` meets its contract. The invariant: those so far and those still to come are all of them. Assumes nothing.
use native.Mathlib.Omega.{arith}
use lib.ListN.{get_or}
use Rattle.replay.proofs.Counted.{newlines-on, newlines-end, as_number, ends-most}
use Rattle.replay.proofs.newlines.Goals as goal

pub loop-byte-preserved : goal.loop-byte-preserved
loop-byte-preserved c =
    let t = c.args.text.now in
    let i = c.loop-byte.byte-index in
    let one = as_number (get_or t i 0) in (
      omega (arith, one, ends-most (get_or t i 0), c.loop-byte.invariant.0),
      omega (arith, one, c.loop-byte.invariant.1, newlines-on t i c.loop-byte-test.true),
    )

pub returns : goal.returns
returns c = omega (arith, c.loop-byte.invariant.1, newlines-end c.args.text.now c.loop-byte.byte-index c.loop-byte-test.false)
