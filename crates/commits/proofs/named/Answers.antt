-- `commits::named` meets its contract: at each line of the chain, the name is among the first n lines exactly if it is among
-- those up to there. Assumes nothing.
use Prim.Native.Nat.{◌-◌}
use mathlib.Core.Path.{sym, ◌∙◌}
use native.Mathlib.Omega.{arith}
use Rattle.commits.proofs.Chains.{walk_start, walk-next, walk-hit, walk_end, walk-less}
use Rattle.commits.proofs.named.Goals as goal

pub loop-at-init : goal.loop-at-init
loop-at-init c =
    walk_start c.args.head c.requires.0.there c.requires.2

pub returns-then-bears : goal.returns-then-bears
returns-then-bears c =
    walk-hit c.loop-at.invariant (omega arith) (sym c.bears.ensures ∙ c.if-bears.true)

pub loop-at-smaller : goal.loop-at-smaller
loop-at-smaller c =
    let w = c.loop-at.invariant in
    rw (c.requires.1.leads (c.loop-at.at - 1) (omega (arith, w.below))) (walk-less w (omega arith))

pub loop-at-preserved : goal.loop-at-preserved
loop-at-preserved c =
    let w = c.loop-at.invariant in
    walk-next w (omega arith) (sym c.bears.ensures ∙ c.if-bears.false) _ (c.requires.1.leads (c.loop-at.at - 1) (omega (arith, w.below)))

pub returns : goal.returns
returns c = walk_end c.loop-at.invariant c.loop-at-test.false
