-- `parts::pass` meets its contract: its tests are the definition's. Assumes nothing.
use borrow.Author.Tests.{lt-ltb, le-ltb, eq-eqb, ne_eqb}
use Rattle.parts.proofs.pass.Goals as goal

pub returns-then-cursor : goal.returns-then-cursor
returns-then-cursor c = rw (lt-ltb _ _ c.if-cursor.true)

pub returns-then-cursor-eq0 : goal.returns-then-cursor-eq0
returns-then-cursor-eq0 c = rw (le-ltb _ _ c.if-cursor.false, eq-eqb _ 0 c.if-cursor-eq0.true)

pub returns : goal.returns
returns c =
    rw (le-ltb _ _ c.if-cursor.false, ne_eqb _ 0 c.if-cursor-eq0.false) c.lowered.ensures
