-- `c_dense::extents_of` meets its contract: the four in turn. Assumes nothing.
use Rattle.answers.specs.Runs.{over}
use Rattle.c_dense.specs.Lent.{extents_of}
use Rattle.c_dense.proofs.extents_of.Goals as goal

pub returns : goal.returns
unfolding extents_of over
returns c =
    rw (c.number_at-d.ensures, c.number_at-c.ensures, c.number_at-b.ensures, c.number_at-a.ensures)
