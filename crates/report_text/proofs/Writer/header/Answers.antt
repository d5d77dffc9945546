-- `report_text::Writer::header` meets its contract: piece by piece. Assumes nothing.
use native.Mathlib.Omega.{arith}
use Rattle.report_text.specs.Text.{header_text}
use Rattle.report_text.proofs.Writing.{puts-append, puts-within}
use Rattle.report_text.proofs.Writer.header.Goals as goal

pub returns-clause-puts : goal.returns-clause-puts
unfolding header_text
returns-clause-puts c =
    puts-within (omega arith) (puts-append (puts-append c.piece.ensures.puts c.piece-2.ensures.puts) c.piece-3.ensures.puts)
