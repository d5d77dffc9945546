-- The measure of `dense::fill`: the number of axes after this one. The loop's invariant: what is left of the run, over
-- what the faster axes hold of each tile, is all of it from where it began.
-- Assumes nothing.
use Rattle.std.proofs.Common.{◌≡◌, ◌+◌, ◌-◌, length}
use Rattle.answers.specs.Runs.{join}
use Rattle.dense.specs.Code.Spans.{numbers_of}
use Rattle.dense.proofs.Storing.{Left}
use Rattle.dense.proofs.+fill.Given as goal

abbrev pub decreases-fill : goal.decreases-fill
decreases-fill l = l.more

abbrev pub invariant-loop-t : goal.invariant-loop-t
invariant-loop-t l =
    let g = numbers_of l.axes (l.k + 1) l.more in
    (length l.out ≡ length l.fn.out)
    × Left l.fn.out l.at (join g l.start (l.end - l.start)) l.out l.next (join g l.t (l.end - l.t))
