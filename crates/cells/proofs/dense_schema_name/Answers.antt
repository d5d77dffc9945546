-- `cells::dense_schema_name` meets its contract, as `schema_name` does. Assumes nothing.
use mathlib.Core.Path.{◌∙◌}
use Rattle.cells.proofs.Names.{there, named}
use Rattle.cells.proofs.dense_schema_name.Goals as goal

pub name_of-requires : goal.name_of-requires
name_of-requires c = there _ _ _ _ _ c.check_dense-checked.ensures

pub returns : goal.returns
returns c = c.name_of.ensures ∙ named _ _ _ _ _ c.check_dense-checked.ensures
