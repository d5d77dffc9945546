-- `order::store_all` meets its contract. The invariant: the buffer holds the first i bytes at their place. Assumes nothing.
use Prim.Native.Nat.{ℕ, ◌+◌}
use mathlib.Core.List.{List}
use mathlib.Core.Path.{ap, ◌∙◌}
use native.Mathlib.Omega.{arith}
use lib.ListN.{get_or, set, length-set}
use Rattle.order.proofs.Stores.{copy-next}
use Rattle.order.proofs.store_all.Goals as goal

pub loop-i-preserved : goal.loop-i-preserved
loop-i-preserved c =
    let l = c.loop-i in
    let a = c.args in (
      simp length-set l.invariant.0,
      ap (λ (o : List ℕ). set o (a.at + l.i) (get_or a.bytes.now l.i 0)) l.invariant.1
          ∙ copy-next a.out.now a.at a.bytes.now l.i (omega arith),
    )
