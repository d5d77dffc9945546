-- `floats::F32Float::at_most` meets its contract: the law of `Floats.antt` at its format. Assumes nothing.
use lib.Ieee.{binary32}
use Rattle.order.proofs.Floats.{le-of-floats}
use Rattle.floats.proofs.F32Float.at_most.Goals as goal

pub returns : goal.returns
returns c = le-of-floats binary32 c.args.self c.args.other c.well_formed.0.1 c.well_formed.1.0.1
