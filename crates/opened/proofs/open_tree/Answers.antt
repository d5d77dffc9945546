-- `opened::open_tree` meets its contract: an accepted tree has a tile at least, so a body is held exactly where n is not 0. Assumes nothing.
use Rattle.std.proofs.Common.{refl, ◌∙◌}
use Rattle.opened.proofs.Keeping.{kept-held}
use Rattle.opened.proofs.open_tree.Goals as goal

pub returns : goal.returns
returns c =
    let x = c.args in
    (c.held_part-part.ensures ∙ rw c.opened_tiles-n.ensures (kept-held x.description x.file_size x.footer.now x.body.now), (c.opened_tiles-n.ensures, refl))
