-- `commits::write` meets its contract. Assumes nothing.
use Rattle.text.specs.Text.{lines}
use Rattle.commits.specs.Committed.{listed}
use Rattle.commits.proofs.Listed.{Left}
use Rattle.commits.proofs.write.Given as goal

abbrev pub invariant-loop-i : goal.invariant-loop-i
invariant-loop-i l = Left (listed l.time (lines l.text)) (lines l.text) l.initial.out l.out l.found l.i
