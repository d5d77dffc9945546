-- `floats::F64Float::finite_pattern` meets its contract: the law of `Read.antt` at its format. Assumes nothing.
use lib.Ieee.{binary64}
use Rattle.order.proofs.Read.{finite-doubled}
use Rattle.floats.proofs.F64Float.finite_pattern.Goals as goal

pub returns : goal.returns
returns c = finite-doubled binary64 c.args.p
