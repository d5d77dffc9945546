-- `tile_values::own_bytes` meets its contract: the bytes of a part are those of the whole from its place on. Assumes
-- nothing.
use Rattle.std.proofs.Common.{◌+◌, ◌*◌}
use Rattle.tile_metadata.proofs.Turns.{part}
use Rattle.tile_values.proofs.own_bytes.Goals as goal

pub returns : goal.returns
returns c =
    let a = c.args in
    part a.body.now (8 + a.width * a.i) a.width
