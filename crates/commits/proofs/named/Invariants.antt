-- `commits::named` meets its contract: at each line of the chain, the name is among the first n lines exactly if it is among
-- those up to there. Assumes nothing.
use Rattle.text.specs.Text.{lines}
use Rattle.commits.specs.Code.Index.{kind_code}
use Rattle.commits.proofs.Chains.{Walk}
use Rattle.commits.proofs.named.Given as goal

abbrev pub invariant-loop-at : goal.invariant-loop-at
invariant-loop-at l = Walk (lines l.text) (kind_code l.kind) l.name l.n l.at

abbrev pub decreases-loop-at : goal.decreases-loop-at
decreases-loop-at l = l.at
