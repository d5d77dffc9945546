-- `cells::tile_cells` meets its contract: the cells by the small answer's numbers, which are 0 where the footer is refused. Assumes nothing.
use mathlib.Core.Path.{◌∙◌}
use Rattle.footer.specs.Answer.{tile_cells_by}
use Rattle.cells.proofs.tile_cells.Goals as goal

pub returns : goal.returns
unfolding tile_cells_by
returns c = c.cells_at.ensures ∙ rw c.check-checked.ensures
