-- `query::f64s_have_nan` meets its contract: the upper bytes tell that there is none, or the patterns are told one after the other. Assumes nothing.
use mathlib.Core.Path.{sym, ap, ◌∙◌}
use Rattle.query.proofs.Nans.{small, uppers-tell}
use Rattle.query.proofs.f64s_have_nan.Goals as goal

pub returns-then-is_small-2 : goal.returns-then-is_small-2
returns-then-is_small-2 c =
    uppers-tell c.args.bytes.now c.type_inv.bytes
    (ap small (sym c.u32_at.ensures) ∙ sym c.is_small.ensures ∙ c.if-is_small.true)
    (ap small (sym c.u32_at-then-is_small.ensures) ∙ sym c.is_small-then-is_small.ensures ∙ c.if-is_small-2.true)
