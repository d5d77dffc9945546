-- `converter::put_sixteen` meets its contract. Assumes nothing.
use mathlib.Core.Path.{◌∙◌}
use native.Mathlib.Omega.{arith}
use Rattle.order.proofs.Stores.{pair-stored}
use Rattle.converter.proofs.Sides.{sixteen-copied}
use Rattle.converter.proofs.put_sixteen.Goals as goal

pub returns : goal.returns
returns c =
    let x = c.args in
    pair-stored x.out.now _ _ 8 c.u64_at.result c.u64_at-2.result (omega arith) c.put_u64.ensures c.put_u64-2.ensures
    ∙ rw (c.u64_at.ensures, c.u64_at-2.ensures)
    (sixteen-copied x.bytes.now (λ j. (c.type_inv.bytes j).fits) (omega arith))
