-- `report_text::Writer::word` meets its contract. Assumes nothing.
use mathlib.Core.Path.{refl}
use native.Mathlib.Omega.{arith}
use Rattle.text.proofs.Writing.{wrote}
use Rattle.report_text.proofs.Writer.word.Goals as goal

pub returns-clause-puts : goal.returns-clause-puts
returns-clause-puts c =
    let w = c.args.self.now in
    record { from = refl; wrote = wrote w.from w.out.now w.at c.args.word.now c.write.ensures; bound = omega (arith, c.write.ensures.0) }
