-- `report_text::Writer::outcome` meets its contract: by what was found out. Assumes nothing.
use native.Mathlib.Omega.{arith}
use Rattle.report_text.specs.Code.Writing.{outcome_text}
use Rattle.report_text.proofs.Writing.{puts-within}
use Rattle.report_text.proofs.Writer.outcome.Goals as goal

pub returns-in-Ok-clause-puts : goal.returns-in-Ok-clause-puts
unfolding outcome_text
returns-in-Ok-clause-puts c = rw c.in-Ok.is c.listing.ensures.puts

pub returns-in-Err-clause-puts : goal.returns-in-Err-clause-puts
unfolding outcome_text
returns-in-Err-clause-puts c = rw c.in-Err.is (puts-within (omega arith) c.unlisted.ensures.puts)
