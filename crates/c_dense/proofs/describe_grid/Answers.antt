-- `c_dense::describe_grid` meets its contract. Assumes nothing.
use mathlib.Core.Path.{◌∙◌}
use Rattle.c_dense.specs.Lent.{describe_grid}
use Rattle.c_dense.proofs.describe_grid.Goals as goal

pub returns : goal.returns
unfolding describe_grid
returns c = c.describe.ensures ∙ rw c.or_zero-some.ensures
