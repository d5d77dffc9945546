-- `floats::F64Float::bits` meets its contract: the laws of `Read.antt` at its format. Assumes nothing.
use mathlib.Core.Path.{sym, ◌∙◌}
use lib.Ieee.{binary64}
use Rattle.order.proofs.Read.{some-value, nan-bits}
use Rattle.floats.proofs.F64Float.bits.Goals as goal

pub float_to_bits-result : goal.float_to_bits-result
float_to_bits-result c = some-value binary64 c.args.self c.well_formed.0.1 (sym c.is_nan.ensures ∙ c.if-is_nan.false)

pub returns-then-is_nan : goal.returns-then-is_nan
returns-then-is_nan c = nan-bits binary64 c.args.self c.well_formed.0.1 (sym c.is_nan.ensures ∙ c.if-is_nan.true)
