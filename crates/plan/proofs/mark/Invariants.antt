-- `plan::mark` meets its contract. The invariant: the tiles that are marked or still to come in the run are those that
-- were marked or occur in it, and the entries below n that were counted or are still to come are all of them. Assumes nothing.
use Rattle.plan.proofs.Marks.{Marked}
use Rattle.plan.proofs.mark.Given as goal

abbrev pub invariant-loop-entry : goal.invariant-loop-entry
invariant-loop-entry l = Marked l.n l.run l.initial.marks l.marks l.inside l.entry-index
