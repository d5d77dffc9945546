-- `floats::F64Float::nan_pattern` meets its contract: the law of `Read.antt` at its format. Assumes nothing.
use lib.Ieee.{binary64}
use Rattle.order.proofs.Read.{nan-doubled}
use Rattle.floats.proofs.F64Float.nan_pattern.Goals as goal

pub returns : goal.returns
returns c = nan-doubled binary64 c.args.p
