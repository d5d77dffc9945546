use Rattle.answers.proofs.Told.{numbered}
use Rattle.answers.proofs.Reason.number.Goals as goal

pub returns : goal.returns
returns c = numbered c.args.self
