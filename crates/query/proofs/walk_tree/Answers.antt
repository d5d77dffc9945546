-- `query::walk_tree` meets its contract: the plan has what is known of the shape and of the description. Assumes nothing.
use Rattle.query.proofs.walk_tree.Goals as goal

pub walk_row-requires : goal.walk_row-requires
walk_row-requires c = rw c.box_bytes.ensures c.requires.1

pub returns : goal.returns
returns c = rw (← c.box_bytes.ensures) c.walk_row.ensures
