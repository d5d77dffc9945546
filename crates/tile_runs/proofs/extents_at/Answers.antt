-- `tile_runs::extents_at` meets its contract. The invariant: what is still to be told, over what stands in the buffer
-- now, is all of it over what stood there first. Assumes nothing.
use mathlib.Core.Path.{refl}
use Rattle.tile_runs.proofs.Told.{told-two, told-done}
use Rattle.tile_runs.proofs.extents_at.Goals as goal

pub loop-k-preserved : goal.loop-k-preserved
loop-k-preserved c =
    let inv = c.loop-k.invariant in
    (inv.0, rw c.extent_at-e.ensures (told-two inv.1 c.loop-k-test.true _ _ refl))

pub returns : goal.returns
returns c =
    let inv = c.loop-k.invariant in
    rw inv.0 at (told-done inv.1 c.loop-k-test.false)
