-- `tile_values::first_nan` meets its contract: the values from i on decide. Assumes nothing.
use Rattle.std.proofs.Common.{sym, ◌∙◌, arith}
use Rattle.answers.specs.Told.{told, number_of}
use Rattle.tile_metadata.proofs.Turns.{kept, broken, all-kept}
use Rattle.tile_values.proofs.first_nan.Goals as goal

pub returns-then-nan_at : goal.returns-then-nan_at
unfolding told number_of
returns-then-nan_at c =
    rw (c.at.ensures, c.width_of-width.ensures)
    (broken c.loop-i.invariant c.loop-i-test.true (omega arith) (sym c.nan_at.ensures ∙ c.if-nan_at.true))

pub loop-i-preserved : goal.loop-i-preserved
loop-i-preserved c = kept c.loop-i.invariant c.loop-i-test.true (sym c.nan_at.ensures ∙ c.if-nan_at.false)

pub returns : goal.returns
unfolding told
returns c = all-kept c.loop-i.invariant c.loop-i-test.false
