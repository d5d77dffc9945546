-- `c_arguments::describe` meets its contract: each field by its own function. Assumes nothing.
use Rattle.c_arguments.specs.Described.{describe}
use Rattle.c_arguments.proofs.describe.Goals as goal

pub returns : goal.returns
unfolding describe
returns c =
    let all = c in
    rw (c.or_zero-count.ensures, all.all_kinds.ensures, all.dimensions_of-dims.ensures)
