-- `report_text::Writer::piece` meets its contract: the word, and then the number. Assumes nothing.
use Rattle.report_text.proofs.Writing.{puts-append}
use Rattle.report_text.proofs.Writer.piece.Goals as goal

pub returns-clause-puts : goal.returns-clause-puts
returns-clause-puts c = puts-append c.word.ensures.puts c.field.ensures.puts
