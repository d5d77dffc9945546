-- `extents::var_tile_extent` meets its contract: what `extent_at` answers for as many tiles as the check does. Assumes
-- nothing.
use Rattle.extents.proofs.Extents.{told-with}
use Rattle.extents.proofs.var_tile_extent.Goals as goal

pub returns : goal.returns
returns c =
    let a = c.args in
    rw (c.extent_at.ensures, c.unwrap_or-listed.ensures) (told-with a.tiles a.size a.body.now a.i _ c.open_var_offsets.result c.open_var_offsets.ensures.answer)
