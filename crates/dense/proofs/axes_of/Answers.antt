-- `dense::axes_of` meets its contract.
-- Assumes nothing.
use Rattle.std.proofs.Common.{◌≡◌, ℕ, sym, ◌∙◌, arith}
use Rattle.answers.proofs.Filled.{filled_none, filled_more}
use Rattle.dense.specs.declared.Axis.{Axis}
use Rattle.dense.specs.Dense.{dimension_of}
use Rattle.dense.specs.Code.Spans.{axis_at, no_axis, axes_of}
use Rattle.dense.proofs.Accepting.{split-clear}
use Rattle.dense.proofs.Meaning.{dim-within}
use Rattle.dense.proofs.axes_of.Goals as goal

pub loop-k-init : goal.loop-k-init
loop-k-init c = sym (filled_none _ no_axis 4)

pub of-requires : goal.of-requires
of-requires c =
    (split-clear _ _ _ (c.requires.1 c.dimension_of-i.result (dim-within c.args.order c.args.n c.loop-k.k c.dimension_of-i.result c.loop-k-test.true c.dimension_of-i.ensures))).some

pub loop-k-preserved : goal.loop-k-preserved
loop-k-preserved c =
    let a = c.of-cells.ensures in
    let b = c.of-asked.ensures in
    let g : ℕ → Axis = λ j. axis_at c.args.domain c.args.extents c.args.window (dimension_of c.args.order c.args.n j) in
    let e : c.of.result ≡ g c.loop-k.k = c.of.ensures ∙ rw (a.0, a.1, b.0, b.1, c.dimension_of-i.ensures) in
    rw (c.loop-k.invariant, e) (filled_more g no_axis c.loop-k.k 4 (omega arith))

pub returns : goal.returns
unfolding axes_of
returns c =
    let z : c.loop-k.k ≡ c.args.n = omega arith in
    c.loop-k.invariant ∙ rw z
