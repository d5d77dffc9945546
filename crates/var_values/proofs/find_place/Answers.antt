-- `var_values::find_place` meets its contract: each test that fails says that the bytes end before the value does.
-- Assumes nothing.
use Rattle.std.proofs.Common.{sym, arith}
use Rattle.var_values.proofs.VarValues.{there, no_place, has-place}
use Rattle.var_values.proofs.find_place.Goals as goal
use Rattle.var_values.proofs.find_place.Goals.{then-tiles-i-via-then-tiles-i, then-tiles-i-via-else-tiles-i+then-words-lt2, then-tiles-i-via-else-tiles-i+else-words-lt2+then-words-tiles}

pub returns-then-tiles-i : goal.returns-then-tiles-i
returns-then-tiles-i c =
    let a = c.args in
    elim c.then-tiles-i.branch [
      | then-tiles-i-via-then-tiles-i w ↦ sym (no_place a.tiles a.body.now a.i (λ l. omega arith))
      | then-tiles-i-via-else-tiles-i+then-words-lt2 w ↦ sym (no_place a.tiles a.body.now a.i (λ l. omega arith))
      | then-tiles-i-via-else-tiles-i+else-words-lt2+then-words-tiles w ↦ sym (no_place a.tiles a.body.now a.i (λ l. omega arith))
    ]

pub returns-in_err-room : goal.returns-in_err-room
returns-in_err-room c =
    let a = c.args in
    let said = there a.tiles a.body.now a.i c.if-tiles-i.false c.word_at-offset.ensures c.end_of-end.ensures c.saturating_sub-extent.ensures in
    let none = rw c.in_err-room.was at c.checked_sub.ensures in
    rw c.from_residual.ensures (sym (no_place a.tiles a.body.now a.i (λ l. omega (arith, said.0, none))))

pub returns-then-room-extent : goal.returns-then-room-extent
returns-then-room-extent c =
    let a = c.args in
    let said = there a.tiles a.body.now a.i c.if-tiles-i.false c.word_at-offset.ensures c.end_of-end.ensures c.saturating_sub-extent.ensures in
    let some = rw c.in_ok-room.was at c.checked_sub.ensures in
    sym (no_place a.tiles a.body.now a.i (λ l. omega (arith, said.0, said.1, some.0, some.1)))

pub returns : goal.returns
returns c =
    let a = c.args in
    let said = there a.tiles a.body.now a.i c.if-tiles-i.false c.word_at-offset.ensures c.end_of-end.ensures c.saturating_sub-extent.ensures in
    let some = rw c.in_ok-room.was at c.checked_sub.ensures in
    rw (said.0, said.1) (sym (has-place a.tiles a.body.now a.i (omega arith) (omega (arith, said.0, said.1, some.0, some.1))))
