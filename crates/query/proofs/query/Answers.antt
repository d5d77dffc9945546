-- `query::query` meets its contract. Where a check refuses, what it says is what all of them say in their order; where none does, the walk starts at
-- the root's row. All clauses follow from what is answered and left, by `refusing` and `walking` of `Promised.antt`.
-- Assumes nothing.
use Rattle.std.proofs.Common.{◌∙◌}
use Rattle.answers.specs.Told.{told}
use Rattle.answers.proofs.Told.{told-err, ok-clear, refuses}
use Rattle.query.proofs.Promised.{asked-refusal, shape-refusal, refusing, row, walking}
use Rattle.query.proofs.query.Goals as goal

pub returns-in-Err : goal.returns-in-Err
unfolding told
returns-in-Err c =
    let x = c.args in
    let some = refuses c.in-Err.e in
    let promised = refusing x.description x.tiles x.body.now x.window
    (asked-refusal x.description x.tiles x.body.now x.window (told-err c.check_asked.ensures c.in-Err.is) some)
    some (c.refused.ensures ∙ rw c.number.ensures) x.out.now in
    record { answer = promised.0; buffer = promised.1.0; listing = promised.1.1.0; flat_count = promised.1.1.1.0; bound = promised.1.1.1.1 }

pub returns-then-shaped-ne0 : goal.returns-then-shaped-ne0
returns-then-shaped-ne0 c =
    let x = c.args in
    let clear = ok-clear c.check_asked.ensures c.in_default.is in
    let promised = refusing x.description x.tiles x.body.now x.window
    (shape-refusal x.description x.tiles x.body.now x.window clear c.check_shape-shaped.ensures)
    c.if-shaped-ne0.true c.refused-then-shaped-ne0.ensures x.out.now in
    record { answer = promised.0; buffer = promised.1.0; listing = promised.1.1.0; flat_count = promised.1.1.1.0; bound = promised.1.1.1.1 }

-- the root's row
pub walk_tree-walk-requires : goal.walk_tree-walk-requires
walk_tree-walk-requires c =
    let x = c.args in
    row x.description x.tiles x.body.now x.window (ok-clear c.check_asked.ensures c.in_default.is) c.check_shape-shaped.ensures
    c.if-shaped-ne0.false c.of-asked.ensures.is c.of-asked.ensures.fitting x.out.now c.well_formed.1.1.0.0

pub returns : goal.returns
returns c =
    let x = c.args in
    let promised = walking x.description x.tiles x.body.now x.window (ok-clear c.check_asked.ensures c.in_default.is)
    c.check_shape-shaped.ensures c.if-shaped-ne0.false c.of-asked.ensures.is c.of-asked.ensures.fitting x.out.now
    c.walk_tree-walk.ensures in
    record { answer = promised.0; buffer = promised.1.0; listing = promised.1.1.0; flat_count = promised.1.1.1.0; bound = promised.1.1.1.1 }
