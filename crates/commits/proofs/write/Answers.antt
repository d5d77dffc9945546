-- `commits::write` meets its contract. Assumes nothing.
use Prim.Native.Nat.{◌<◌}
use mathlib.Core.Path.{sym, ◌∙◌}
use native.Mathlib.Omega.{arith}
use lib.ListN.{length}
use Rattle.text.specs.Text.{lines}
use Rattle.commits.proofs.Listed.{left-skip, left-put, left_end}
use Rattle.commits.proofs.write.Goals as goal
use Rattle.commits.proofs.write.Goals.{then-wanted, else-wanted}

pub loop-i-preserved : goal.loop-i-preserved
loop-i-preserved c =
    let x = c.loop-i.invariant in
    let h : c.loop-i.i < length (lines c.args.text.now) = omega (arith, c.requires.1, c.loop-i-test.true) in
    let is = sym c.wanted.ensures in
    elim c.if-wanted.branch [
      | then-wanted w ↦ rw (w.out-is, w.found-is) (left-put x h (is ∙ w.if-wanted.true) w.keep.new.out w.keep.ensures)
      | else-wanted w ↦ rw (w.out-is, w.found-is) (left-skip x h (is ∙ w.if-wanted.false))
    ]

pub returns-clause-found : goal.returns-clause-found
returns-clause-found c = (left_end c.loop-i.invariant (omega arith)).0

pub returns-clause-buffer : goal.returns-clause-buffer
returns-clause-buffer c = (left_end c.loop-i.invariant (omega arith)).1
