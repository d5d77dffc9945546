-- `opening::check_row` meets its contract: what is told of the row by itself, moved to the row's start, is told of its
-- boxes in the body. Assumes nothing.
use mathlib.Core.Path.{◌∙◌}
use Prim.Native.Nat.{◌+◌, ◌*◌}
use native.Mathlib.Omega.{arith}
use Rattle.std.proofs.Common.{rules}
use Rattle.answers.specs.Told.{number_of, told}
use Rattle.answers.proofs.Moved.{moved-code}
use Rattle.answers.proofs.Told.{moves, some}
use Rattle.opening.proofs.Rows.{row-place, row-said}
use Rattle.opening.proofs.check_row.Goals as goal

pub returns : goal.returns
returns c =
    let x = c.args in
    let number = number_of x.reason in
    let from = x.start + x.first * x.box_bytes in
    moved-code from (told c.check_row.result) (moves c.check_row.result c.map_err.result from _ c.map_err.ensures.cases (λ e y p. search rules)) (rw c.check_row.ensures (omega (arith, row-place c.requires x.outer.now number, c.requires.there)))
    ∙ rw c.check_row.ensures (row-said c.requires x.outer.now number (some x.reason))
