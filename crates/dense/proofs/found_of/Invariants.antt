-- The invariant of `dense::found_of`: what is multiplied so far and the spans to come make the whole, capped.
-- Assumes nothing.
use Rattle.dense.specs.Code.Spans.{span_at}
use Rattle.dense.proofs.Capping.{Multiplied}
use Rattle.dense.proofs.found_of.Given as goal

abbrev pub invariant-loop-k : goal.invariant-loop-k
invariant-loop-k l = Multiplied (span_at l.axes) l.n l.found l.k
