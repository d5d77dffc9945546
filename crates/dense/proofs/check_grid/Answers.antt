-- `dense::check_grid` meets its contract: the checks in turn.
-- Assumes nothing.
use Rattle.std.proofs.Common.{◌≡◌, ℕ, sym, ap, ◌∙◌, arith}
use lib.Dec.{ltb}
use Rattle.answers.specs.Told.{number_of}
use Rattle.answers.specs.Checks.{each}
use Rattle.answers.proofs.Checks.{each-clear}
use Rattle.answers.proofs.Told.{stops, passes, ends, exits, ok-clear}
use Rattle.description.specs.Limits.{most_tiles}
use Rattle.description.specs.Description.{sides_of}
use Rattle.dense.specs.Grid.{product}
use Rattle.dense.specs.Code.Spans.{capped}
use Rattle.dense.specs.Dense.{tiles_in, grid_refusal}
use Rattle.dense.proofs.Told.{capped-above}
use Rattle.dense.proofs.check_grid.Goals as goal

pub returns-in_err-check : goal.returns-in_err-check
unfolding grid_refusal
returns-in_err-check c = exits _ _ c.from_residual.ensures.1 (stops c.check.ensures _ c.in_err-check.was)

pub returns-in_err-check_window : goal.returns-in_err-check_window
unfolding grid_refusal
returns-in_err-check_window c =
    exits _ _ c.from_residual-in_err-check_window.ensures.1
    (stops c.check_window.ensures _ c.in_err-check_window.was ∙ sym (passes c.check.ensures _ c.in_ok-check.was))

pub returns-in_err-check_splits : goal.returns-in_err-check_splits
unfolding grid_refusal
returns-in_err-check_splits c =
    exits _ _ c.from_residual-in_err-check_splits.ensures.1
    (stops (c.check_splits.ensures ∙ ap (each _ 0) c.sides_of-n.ensures) _ c.in_err-check_splits.was
    ∙ sym (passes c.check.ensures _ c.in_ok-check.was ∙ passes c.check_window.ensures _ c.in_ok-check_window.was))

pub tiles_of-tiles-requires : goal.tiles_of-tiles-requires
tiles_of-tiles-requires c =
    (omega (arith, c.sides_of-n.ensures), λ i h. each-clear _ 0 _ (ok-clear c.check_splits.ensures c.in_ok-check_splits.was) i (omega arith) (omega arith))

pub returns : goal.returns
unfolding grid_refusal number_of
returns c =
    let a = c.args in
    let n = c.sides_of-n.ensures in
    let g = tiles_in a.description a.domain a.extents in
    let most : ltb most_tiles c.tiles_of-tiles.result ≡ ltb most_tiles (product g 0 (sides_of a.description.dimensions)) =
    ap (ltb most_tiles) (c.tiles_of-tiles.ensures ∙ ap (λ (x : ℕ). capped (product g 0 x)) n)
    ∙ capped-above (product g 0 (sides_of a.description.dimensions)) in
    let here = rw most at c.when.ensures in
    here
    ∙ sym (passes c.check.ensures _ c.in_ok-check.was
    ∙ passes c.check_window.ensures _ c.in_ok-check_window.was
    ∙ passes (c.check_splits.ensures ∙ ap (each _ 0) n) _ c.in_ok-check_splits.was
    ∙ ends _ _ here)
