-- `c_answers::put_numbers` meets its contract. Assumes nothing.
use Rattle.c_answers.specs.Places.{number_places}
use Rattle.c_answers.proofs.put_numbers.Goals as goal

pub returns : goal.returns
unfolding number_places
returns c = c.put.ensures
