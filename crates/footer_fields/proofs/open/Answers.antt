-- `footer_fields::open` meets its contract: the check decides, and what it passes is there whole. Assumes nothing.
use mathlib.Core.Path.{◌∙◌}
use Rattle.footer_fields.proofs.Answers.{whole, large}
use Rattle.footer_fields.proofs.open.Goals as goal

pub fields_of-requires : goal.fields_of-requires
fields_of-requires c = whole _ _ _ _ _ c.check.ensures

pub returns : goal.returns
returns c = c.fields_of.ensures ∙ large _ _ _ _ _ c.check.ensures
