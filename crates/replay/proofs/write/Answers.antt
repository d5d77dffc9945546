-- `replay::write` meets its contract. The invariant: the line of that number starts at the place, and whoever writes what is left of the text, from here on,
-- has written all of it. Assumes nothing.
use Prim.Native.Nat.{◌≤◌}
use native.Mathlib.Omega.{arith}
use lib.ListN.{length}
use Rattle.text.proofs.Lines.{first-line, end-inside, next-line, more-lines, no-more-lines}
use Rattle.replay.proofs.Room.{lines-few}
use Rattle.replay.proofs.Text.{write-start, write-room, write-on, write-end}
use Rattle.replay.proofs.write.Goals as goal

pub write_line-next-requires : goal.write_line-next-requires
write_line-next-requires c =
    let x = c.args in
    write-room x.description x.tiles x.body.now x.log.now c.loop-at.invariant.0 c.loop-at-test.true c.piece_end-end.ensures.0
    c.outcome_of-outcome.result c.outcome_of-outcome.ensures c.loop-at.invariant.1 c.requires

pub overflow_add-number : goal.overflow_add-number
overflow_add-number c =
    omega (arith, more-lines c.loop-at.invariant.0 c.loop-at-test.true, lines-few c.args.log.now)

pub loop-at-preserved : goal.loop-at-preserved
loop-at-preserved c =
    let x = c.args in (
      next-line x.log.now c.loop-at.number c.loop-at.invariant.0 c.piece_end-end.ensures.0 c.after-at.ensures,
      write-on x.description x.tiles x.body.now x.log.now c.loop-at.invariant.0 c.loop-at-test.true c.piece_end-end.ensures.0
          c.outcome_of-outcome.result c.outcome_of-outcome.ensures c.loop-at.invariant.1 c.write_line-next.ensures,
    )

pub returns : goal.returns
returns c =
    let x = c.args in
    write-end x.description x.tiles x.body.now x.log.now c.loop-at.invariant.1 (no-more-lines c.loop-at.invariant.0 c.loop-at-test.false)

pub loop-at-init : goal.loop-at-init
loop-at-init c = (first-line _, write-start _ _ _ _ _)

pub slice_bounds-outcome_of-end : goal.slice_bounds-outcome_of-end
slice_bounds-outcome_of-end c =
    let inside : c.piece_end-end.result ≤ length c.args.log.now =
    end-inside c.args.log.now c.loop-at.number c.loop-at.invariant.0 c.piece_end-end.ensures.0 (omega (arith, c.loop-at-test.true)) in
    omega (arith, inside, c.piece_end-end.ensures.0)
