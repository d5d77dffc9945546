-- `leaves::sound_in` meets its contract. The invariant: the ranges of the leaves before leaf k have no fault. Assumes
-- nothing.
use Prim.Native.Nat.{◌+◌, ◌*◌}
use native.Mathlib.Omega.{arith}
use borrow.Author.Count.{below_more}
use Rattle.leaves.proofs.Sound.{sound-stored}
use Rattle.leaves.proofs.sound_in.Goals as goal

pub loop-k-preserved : goal.loop-k-preserved
loop-k-preserved c =
    let l = c.loop-k in
    let x = c.args in (
      omega (arith, c.loop-k-test),
      below_more _ _ l.invariant.1 (sound-stored x.kind x.leaves.now (l.k * x.box_bytes + x.side) x.side (c.sound_at.ensures c.if-not-sound_at.false)),
    )
