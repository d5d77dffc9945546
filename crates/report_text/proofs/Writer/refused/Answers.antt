-- `report_text::Writer::refused` meets its contract: piece by piece. Assumes nothing.
use native.Mathlib.Omega.{arith}
use Rattle.report_text.specs.Text.{refused_text}
use Rattle.report_text.proofs.Writing.{puts-append, puts-within}
use Rattle.report_text.proofs.Writer.refused.Goals as goal

pub returns-clause-puts : goal.returns-clause-puts
unfolding refused_text
returns-clause-puts c = puts-within (omega arith) (puts-append c.piece.ensures.puts c.field.ensures.puts)
