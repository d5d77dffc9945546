-- `plan::mark` meets its contract. The invariant: the tiles that are marked or still to come in the run are those that
-- were marked or occur in it, and the entries below n that were counted or are still to come are all of them. The
-- measure is what is left of the run. Assumes nothing.
use Rattle.plan.proofs.Marks.{mark-next, mark-skip, mark-end, inside-end}
use Rattle.plan.proofs.mark.Goals as goal
use Rattle.plan.proofs.mark.Goals.{then-tile-n, else-tile-n}

pub loop-entry-preserved : goal.loop-entry-preserved
loop-entry-preserved c =
    let m = c.loop-entry.invariant in
    elim c.if-tile-n.branch [
      | then-tile-n w ↦ rw (w.marks-is, w.inside-is) (mark-next m c.loop-entry-test.true w.if-tile-n.true c.requires w.set_mark.new.marks w.set_mark.ensures)
      | else-tile-n w ↦ rw (w.marks-is, w.inside-is) (mark-skip m c.loop-entry-test.true w.if-tile-n.false)
    ]

pub returns-clause-inside : goal.returns-clause-inside
returns-clause-inside c = inside-end c.loop-entry.invariant c.loop-entry-test.false

pub returns-clause-marks : goal.returns-clause-marks
returns-clause-marks c = mark-end c.loop-entry.invariant c.loop-entry-test.false
