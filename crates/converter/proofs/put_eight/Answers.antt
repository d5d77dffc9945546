-- `converter::put_eight` meets its contract: one number fills the buffer, that of the bytes. Assumes nothing.
use mathlib.Core.Path.{◌∙◌}
use native.Mathlib.Omega.{arith}
use Rattle.converter.proofs.Sides.{eight-copied, one-stored}
use Rattle.converter.proofs.put_eight.Goals as goal

pub returns : goal.returns
returns c =
    let x = c.args in
    one-stored x.out.now _ 8 c.u64_at.result (omega arith) c.put_u64.ensures
    ∙ rw c.u64_at.ensures (eight-copied x.bytes.now (λ j. (c.type_inv.bytes j).fits) (omega arith))
