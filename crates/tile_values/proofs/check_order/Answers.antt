-- `tile_values::check_order` meets its contract: the values from i on decide. Assumes nothing.
use Rattle.std.proofs.Common.{arith}
use borrow.Author.Tests.{lt-ltb, le-ltb}
use Rattle.answers.specs.Told.{told, number_of}
use Rattle.tile_metadata.proofs.Turns.{kept, broken, all-kept}
use Rattle.tile_values.proofs.check_order.Goals as goal

pub returns-then-max-min : goal.returns-then-max-min
unfolding told number_of
returns-then-max-min c =
    let above = lt-ltb _ _ (rw (c.key_at-max.ensures, c.key_at-min.ensures, c.width_of-width.ensures) at c.if-max-min.true) in
    rw (c.at.ensures, c.width_of-width.ensures) (broken c.loop-i.invariant c.loop-i-test.true (omega arith) above)

pub loop-i-preserved : goal.loop-i-preserved
loop-i-preserved c =
    let not-above = le-ltb _ _ (rw (c.key_at-max.ensures, c.key_at-min.ensures, c.width_of-width.ensures) at c.if-max-min.false) in
    kept c.loop-i.invariant c.loop-i-test.true not-above

pub returns : goal.returns
unfolding told
returns c = all-kept c.loop-i.invariant c.loop-i-test.false
