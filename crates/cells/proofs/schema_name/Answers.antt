-- `cells::schema_name` meets its contract: the name is there where it has bytes. Assumes nothing.
use mathlib.Core.Path.{◌∙◌}
use Rattle.cells.proofs.Names.{there, named}
use Rattle.cells.proofs.schema_name.Goals as goal

pub name_of-requires : goal.name_of-requires
name_of-requires c = there _ _ _ _ _ c.check-checked.ensures

pub returns : goal.returns
returns c = c.name_of.ensures ∙ named _ _ _ _ _ c.check-checked.ensures
