-- `tile_values::all_between` meets its contract. The invariant: where the test held so far, it holds of each tile from the
-- first on and before i, and where it didn't, of one of them not. Assumes nothing.
use Rattle.std.proofs.Common.{◌≡◌, ◌≤◌, ◌<◌, ℕ, true, false}
use Rattle.tile_values.proofs.all_between.Given as goal

abbrev pub invariant-loop-i : goal.invariant-loop-i
invariant-loop-i g l =
    (l.all ≡ true → (j : ℕ) → l.from ≤ j → j < l.i → goal.F-post g l.test j true)
    × (l.all ≡ false → (j : ℕ) × (l.from ≤ j) × (j < l.to) × goal.F-post g l.test j false)
