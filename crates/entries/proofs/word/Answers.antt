-- `entries::word` meets its contract: the bytes of the part are those of the whole from the place on. Assumes nothing.
use mathlib.Core.Path.{◌∙◌}
use Prim.Native.Nat.{◌+◌, ◌-◌}
use native.Mathlib.Nat.{add-zero}
use native.Mathlib.Omega.{arith}
use Rattle.order.proofs.Little.{little-part}
use Rattle.entries.proofs.word.Goals as goal

pub returns : goal.returns
returns c =
    let a = c.args in
    c.u64_at.ensures
    ∙ rw add-zero at (little-part a.body.now a.at (a.at + 8 - a.at) 0 8 (omega arith))
