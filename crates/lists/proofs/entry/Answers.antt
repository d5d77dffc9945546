-- `lists::entry` meets its contract: past the last whole word of the bytes an entry starts past their end. Assumes
-- nothing.
use mathlib.Core.Path.{sym}
use Prim.Native.Nat.{◌+◌, ◌*◌}
use native.Mathlib.Omega.{arith}
use Rattle.order.proofs.Little.{little-past}
use Rattle.lists.proofs.entry.Goals as goal

pub returns-else-i-words : goal.returns-else-i-words
returns-else-i-words c =
    let a = c.args in
    sym (little-past a.body.now (8 + 8 * a.i) 8 (omega arith))
