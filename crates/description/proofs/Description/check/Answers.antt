-- `Description::check` meets its contract. Assumes nothing.
use Rattle.answers.proofs.Told.{comes_next}
use Rattle.description.proofs.Description.check.Goals as goal

pub returns : goal.returns
returns c = comes_next _ c.check_limits.ensures c.check_retired.ensures c.in_ok-check_limits.was
