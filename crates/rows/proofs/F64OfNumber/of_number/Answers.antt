-- `rows::F64OfNumber::of_number` meets its contract: there is no NaN. Assumes nothing.
use lib.Ieee.{binary64}
use Rattle.order.proofs.Read.{no_nan}
use Rattle.rows.proofs.F64OfNumber.of_number.Goals as goal

pub float_from_bits-result : goal.float_from_bits-result
float_from_bits-result c = no_nan binary64 _ c.requires
