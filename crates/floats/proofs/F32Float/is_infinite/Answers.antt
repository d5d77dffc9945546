-- `floats::F32Float::is_infinite` meets its contract: the law of `Infinities.antt` at its format. Assumes nothing.
use mathlib.Core.Path.{◌∙◌}
use lib.Ieee.{binary32}
use Rattle.order.proofs.Infinities.{equals-one}
use Rattle.floats.proofs.F32Float.is_infinite.Goals as goal

pub returns-then-self : goal.returns-then-self
returns-then-self c = c.if-self.true ∙ rw c.if-self.true at (equals-one binary32 c.args.self c.well_formed.0.1)

pub returns-else-self : goal.returns-else-self
returns-else-self c = rw c.if-self.false at (equals-one binary32 c.args.self c.well_formed.0.1)
