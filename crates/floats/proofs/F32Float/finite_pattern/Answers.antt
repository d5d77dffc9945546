-- `floats::F32Float::finite_pattern` meets its contract: the law of `Read.antt` at its format. Assumes nothing.
use lib.Ieee.{binary32}
use Rattle.order.proofs.Read.{finite-doubled}
use Rattle.floats.proofs.F32Float.finite_pattern.Goals as goal

pub returns : goal.returns
returns c = finite-doubled binary32 c.args.p
