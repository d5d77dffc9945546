-- `tree::above` meets its contract: it is the definition of `up`. Assumes nothing.
use mathlib.Core.Path.{refl}
use Rattle.tree.specs.Shape.{up}
use Rattle.tree.proofs.above.Goals as goal

pub returns : goal.returns
unfolding up
returns c = refl
