-- The invariant of `dense::fill_rows`: what is left of the rows, from where storing goes on, is all of them from where
-- it began. The measure is how many are left.
-- Assumes nothing.
use mathlib.Core.Path.{◌≡◌}
use Prim.Native.Nat.{◌-◌}
use lib.ListN.{length}
use Rattle.answers.specs.Runs.{join}
use Rattle.dense.specs.Code.Spans.{row_of}
use Rattle.dense.proofs.Storing.{Left}
use Rattle.dense.proofs.fill_rows.Given as goal

abbrev pub invariant-loop-t : goal.invariant-loop-t
invariant-loop-t l =
    let g = row_of l.row.tiles l.row.first l.row.span in
    (length l.out ≡ length l.initial.out) × Left l.initial.out l.at (join g l.start (l.end - l.start)) l.out l.next (join g l.t (l.end - l.t))
