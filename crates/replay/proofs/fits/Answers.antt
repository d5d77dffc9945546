-- `replay::fits` meets its contract. The invariant: line i starts at the place, and what is left of the text is held to what is left of the
-- room. Assumes nothing.
use Prim.Native.Nat.{◌≤◌}
use native.Mathlib.Omega.{arith}
use lib.ListN.{length}
use Rattle.text.proofs.Lines.{first-line, end-inside, next-line, more-lines, no-more-lines}
use Rattle.replay.proofs.Room.{lines-few}
use Rattle.replay.proofs.Text.{measure-start, measure-stop, measure-on, measure-end}
use Rattle.replay.proofs.fits.Goals as goal

pub returns-then-left-count : goal.returns-then-left-count
returns-then-left-count c =
    let x = c.args in
    measure-stop x.description x.tiles x.body.now x.log.now c.loop-at.invariant.0 c.loop-at-test.true c.piece_end-end.ensures.0 c.outcome_of-outcome.result c.outcome_of-outcome.ensures
    c.loop-at.invariant.1 c.line_length-count.ensures c.if-left-count.true

pub overflow_add-i : goal.overflow_add-i
overflow_add-i c =
    omega (arith, more-lines c.loop-at.invariant.0 c.loop-at-test.true, lines-few c.args.log.now)

pub loop-at-preserved : goal.loop-at-preserved
loop-at-preserved c =
    let x = c.args in (
      next-line x.log.now c.loop-at.i c.loop-at.invariant.0 c.piece_end-end.ensures.0 c.after-at.ensures,
      measure-on x.description x.tiles x.body.now x.log.now c.loop-at.invariant.0 c.loop-at-test.true c.piece_end-end.ensures.0
          c.outcome_of-outcome.result c.outcome_of-outcome.ensures c.loop-at.invariant.1 c.line_length-count.ensures c.if-left-count.false,
    )

pub returns : goal.returns
returns c =
    let x = c.args in
    measure-end x.description x.tiles x.body.now x.log.now c.loop-at.invariant.1 (no-more-lines c.loop-at.invariant.0 c.loop-at-test.false)

pub loop-at-init : goal.loop-at-init
loop-at-init c = (first-line _, measure-start _ _ _ _ _)

pub slice_bounds-outcome_of-end : goal.slice_bounds-outcome_of-end
slice_bounds-outcome_of-end c =
    let inside : c.piece_end-end.result ≤ length c.args.log.now =
    end-inside c.args.log.now c.loop-at.i c.loop-at.invariant.0 c.piece_end-end.ensures.0 (omega (arith, c.loop-at-test.true)) in
    omega (arith, inside, c.piece_end-end.ensures.0)
