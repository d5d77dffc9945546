-- `dense::check_query` meets its contract: the grid, then the window.
-- Assumes nothing.
use Rattle.std.proofs.Common.{sym, ◌∙◌}
use Rattle.answers.proofs.Told.{stops, passes, ends, exits}
use Rattle.dense.specs.Dense.{dense_refusal}
use Rattle.dense.proofs.check_query.Goals as goal

pub returns-in_err-check_grid : goal.returns-in_err-check_grid
unfolding dense_refusal
returns-in_err-check_grid c = exits _ _ c.from_residual.ensures.1 (stops c.check_grid.ensures _ c.in_err-check_grid.was)

pub returns : goal.returns
unfolding dense_refusal
returns c =
    c.check_window.ensures ∙ sym (passes c.check_grid.ensures _ c.in_ok-check_grid.was ∙ ends _ _ c.check_window.ensures)
