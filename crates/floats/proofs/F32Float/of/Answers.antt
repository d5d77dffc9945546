-- `floats::F32Float::of` meets its contract: the laws of `Read.antt` at its format. Assumes nothing.
use mathlib.Core.Path.{sym, ◌∙◌}
use lib.Ieee.{binary32}
use Rattle.order.proofs.Read.{made-nan}
use Rattle.floats.proofs.F32Float.of.Goals as goal

pub returns-then-nan_pattern : goal.returns-then-nan_pattern
returns-then-nan_pattern c = made-nan binary32 c.args.p (sym c.nan_pattern.ensures ∙ c.if-nan_pattern.true)
