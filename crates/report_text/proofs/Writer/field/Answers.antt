-- `report_text::Writer::field` meets its contract. Assumes nothing.
use mathlib.Core.Path.{refl}
use Prim.Native.Nat.{◌≤◌}
use native.Mathlib.Omega.{arith}
use Rattle.text.specs.Write.{field}
use Rattle.text.proofs.Writing.{wrote, field-short}
use Rattle.report_text.proofs.Writer.field.Goals as goal

pub overflow_add-self : goal.overflow_add-self
overflow_add-self c =
    let few : c.write_field.result ≤ 21 = omega (arith, c.write_field.ensures.0, field-short c.args.n c.args.end (omega arith)) in
    omega (arith, few, c.requires)

pub returns-clause-puts : goal.returns-clause-puts
returns-clause-puts c =
    let few : c.write_field.result ≤ 21 = omega (arith, c.write_field.ensures.0, field-short c.args.n c.args.end (omega arith)) in
    let w = c.args.self.now in
    record { from = refl; wrote = wrote w.from w.out.now w.at (field c.args.n c.args.end) c.write_field.ensures; bound = omega (arith, few) }
