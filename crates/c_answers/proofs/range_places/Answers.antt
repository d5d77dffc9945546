-- `c_answers::range_places` meets its contract: the number of the kind, and the patterns. Assumes nothing.
use Rattle.c_answers.specs.Places.{range_places}
use Rattle.c_answers.proofs.range_places.Goals as goal

pub returns : goal.returns
unfolding range_places
returns c = cc
