-- `cells::cells_at` meets its contract: from n on, before the last, and the last. Assumes nothing.
use Prim.Native.Nat.{◌+◌}
use native.Mathlib.Omega.{arith}
use borrow.Author.Tests.{lt-ltb, le-ltb, eq-eqb, ne_eqb}
use Rattle.footer.specs.Answer.{cells_of}
use Rattle.cells.proofs.cells_at.Goals as goal

pub returns-then-tiles-i : goal.returns-then-tiles-i
unfolding cells_of
returns-then-tiles-i c =
    let a = c.args in
    rw (le-ltb (a.i + 1) a.tiles (omega arith), ne_eqb (a.i + 1) a.tiles (λ e. omega arith))

pub returns-then-i-tiles : goal.returns-then-i-tiles
unfolding cells_of
returns-then-i-tiles c = rw (lt-ltb _ _ c.if-i-tiles.true)

pub returns-else-i-tiles : goal.returns-else-i-tiles
unfolding cells_of
returns-else-i-tiles c =
    let a = c.args in
    rw (le-ltb _ _ c.if-i-tiles.false, eq-eqb (a.i + 1) a.tiles (omega arith))
