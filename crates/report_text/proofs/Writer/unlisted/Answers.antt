-- `report_text::Writer::unlisted` meets its contract: by what was found out. Assumes nothing.
use native.Mathlib.Omega.{arith}
use Rattle.report_text.specs.Code.Writing.{unlisted_text}
use Rattle.report_text.proofs.Writing.{puts-within}
use Rattle.report_text.proofs.Writer.unlisted.Goals as goal

pub returns-in-TooLong-clause-puts : goal.returns-in-TooLong-clause-puts
unfolding unlisted_text
returns-in-TooLong-clause-puts c = rw c.in-TooLong.is (puts-within (omega arith) c.word.ensures.puts)

pub returns-in-Refused-clause-puts : goal.returns-in-Refused-clause-puts
unfolding unlisted_text
returns-in-Refused-clause-puts c = rw c.in-Refused.is c.refused.ensures.puts
