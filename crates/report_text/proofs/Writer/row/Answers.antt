-- `report_text::Writer::row` meets its contract: number by number. Assumes nothing.
use Rattle.report_text.specs.Text.{row_text}
use Rattle.report_text.proofs.Writing.{puts-append}
use Rattle.report_text.proofs.Writer.row.Goals as goal

pub returns-clause-puts : goal.returns-clause-puts
unfolding row_text
returns-clause-puts c =
    puts-append (puts-append (puts-append c.field.ensures.puts c.field-2.ensures.puts) c.field-3.ensures.puts) c.field-4.ensures.puts
