-- `plan::tile` meets its contract: a tile ends at an entry or at S, which fit. Assumes nothing.
use Rattle.plan.proofs.Steps.{tile-fits}
use Rattle.plan.proofs.tile.Goals as goal

pub overflow_add-end : goal.overflow_add-end
overflow_add-end c =
    let a = c.args in
    record {
      fits =
          rw c.extent_at-e.ensures
          (tile-fits _ a.size a.body.now c.type_inv.body c.ranges.size.fits a.i);
    }
