-- `text::piece_end` meets its contract, byte after byte. Assumes nothing.
use mathlib.Core.Path.{◌∙◌}
use native.Mathlib.Omega.{arith}
use Rattle.text.proofs.Pieces.{piece-on, piece-stop, piece-last}
use Rattle.text.proofs.piece_end.Goals as goal

pub returns-then-text-end : goal.returns-then-text-end
returns-then-text-end c =
    let x = c.args in
    (omega (arith, c.loop-end.invariant, piece-stop x.separator x.text.now c.loop-end.end (omega arith) c.if-text-end.true), omega arith)

pub loop-end-preserved : goal.loop-end-preserved
loop-end-preserved c =
    let x = c.args in
    omega (arith, c.loop-end.invariant, piece-on x.separator x.text.now c.loop-end.end (omega arith) c.if-text-end.false)

pub returns : goal.returns
returns c =
    let x = c.args in
    let l = c.loop-end in (
      c.max.ensures ∙ piece-last x.separator x.text.now x.from l.end l.auto.end-end (omega arith) l.invariant,
      omega (arith, c.max.ensures),
    )
