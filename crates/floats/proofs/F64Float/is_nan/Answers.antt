-- `floats::F64Float::is_nan` meets its contract: the law of `Read.antt` at its format. Assumes nothing.
use lib.Ieee.{binary64}
use Rattle.order.proofs.Read.{ne-of-floats}
use Rattle.floats.proofs.F64Float.is_nan.Goals as goal

pub returns : goal.returns
returns c = ne-of-floats binary64 c.args.self c.well_formed.0.1
