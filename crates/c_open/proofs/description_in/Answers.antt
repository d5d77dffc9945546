-- `c_open::description_in` meets its contract: place by place. Assumes nothing.
use Rattle.c_open.specs.State.{description_in}
use Rattle.c_open.proofs.description_in.Goals as goal

pub returns : goal.returns
unfolding description_in
returns c = rw c.kinds_in-kinds.ensures
