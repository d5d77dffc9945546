-- The invariant of `dense::axes_of`: the first k places are filled.
-- Assumes nothing.
use mathlib.Core.Path.{◌≡◌}
use Rattle.answers.specs.Runs.{filled}
use Rattle.dense.specs.Dense.{dimension_of}
use Rattle.dense.specs.Code.Spans.{axis_at, no_axis}
use Rattle.dense.proofs.axes_of.Given as goal

abbrev pub invariant-loop-k : goal.invariant-loop-k
invariant-loop-k l = l.axes ≡ filled (λ j. axis_at l.domain l.extents l.window (dimension_of l.order l.n j)) no_axis l.k 4
