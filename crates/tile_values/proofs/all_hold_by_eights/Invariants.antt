-- `tile_values::all_hold_by_eights` meets its contract. The invariant: the test holds of each tile of the blocks before.
-- Assumes nothing.
use Rattle.std.proofs.Common.{◌*◌, ◌<◌, ℕ, true}
use Rattle.tile_values.proofs.all_hold_by_eights.Given as goal

abbrev pub invariant-loop-block : goal.invariant-loop-block
invariant-loop-block g l = (j : ℕ) → j < 8 * l.block → goal.F-post g l.test j true
