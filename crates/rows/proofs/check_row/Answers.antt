-- `rows::check_row` meets its contract. The loop's invariant: the place is that of a box of the row, and the boxes before it said nothing (`RowAt`).
-- Assumes nothing.
use Rattle.rows.proofs.Within.{row-start, fault-stops, fault-passes}
use Rattle.rows.proofs.check_row.Goals as goal

pub loop-b-init : goal.loop-b-init
loop-b-init g c = row-start

pub returns-in-Some-box_fault : goal.returns-in-Some-box_fault
returns-in-Some-box_fault g c =
    let found = c.in-Some.ensures in
    fault-stops (found.before _ c.loop-b.invariant) found.some found.there found.apart (rw found.end at c.in-Some-box_fault.ensures)

pub loop-b-preserved : goal.loop-b-preserved
loop-b-preserved g c =
    let found = c.in-Some.ensures in
    rw found.end (fault-passes (found.before _ c.loop-b.invariant) found.some found.there found.apart (rw found.end at c.in_default-box_fault.ensures))
