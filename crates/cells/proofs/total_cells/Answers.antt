-- `cells::total_cells` meets its contract: at most 16,777,216 tiles of at most 1,000,000,000 cells fit. Assumes nothing.
use mathlib.Core.Path.{◌≡◌, refl}
use Prim.Native.Nat.{◌-◌, ◌*◌, ◌≤◌}
use native.Mathlib.Omega.{arith}
use native.Mathlib.Nat.{mul-le-mul}
use borrow.Author.Tests.{ne_eqb}
use Rattle.description.specs.Limits.{most_tiles, most_capacity}
use Rattle.footer.specs.Answer.{refused_checked, total_cells, all_cells_by}
use Rattle.footer.proofs.Passed.{Ready, ready, checked-number, checked_refused}
use Rattle.cells.proofs.total_cells.Goals as goal
use Rattle.cells.proofs.total_cells.Goals.{Else-checked-ne0}

pub returns-then-checked-ne0 : goal.returns-then-checked-ne0
unfolding all_cells_by total_cells refused_checked
returns-then-checked-ne0 c =
    let a = c.args in
    let z = rw (c.check-checked.ensures, checked-number a.description a.file_size a.bytes.now) at c.if-checked-ne0.true in
    rw (checked_refused a.description a.file_size a.bytes.now z)

whole : (c : Else-checked-ne0) → Ready c.args.description c.args.file_size c.args.bytes.now c.check-checked.result
whole c =
    let a = c.args in
    ready a.description a.file_size a.bytes.now c.check-checked.result c.check-checked.ensures c.if-checked-ne0.false

-- all tiles but the last
product : (c : Else-checked-ne0) → (c.check-checked.result.tiles - 1) * c.args.description.capacity ≤ most_tiles * most_capacity
product c =
    let w = whole c in
    mul-le-mul {n₂ = most_tiles} {m₂ = most_capacity} (omega (arith, w.tiles, w.pass.most-tiles)) w.pass.head.description.most-capacity

pub overflow_sub-result : goal.overflow_sub-result
overflow_sub-result c =
    let w = whole (goal.at.overflow_sub-result c).Else-checked-ne0 in
    omega (arith, w.tiles, w.pass.some-tiles)

pub overflow_mul-result : goal.overflow_mul-result
overflow_mul-result c = record { fits = omega (arith, product (goal.at.overflow_mul-result c).Else-checked-ne0) }

pub overflow_add-result : goal.overflow_add-result
overflow_add-result c =
    let e = (goal.at.overflow_add-result c).Else-checked-ne0 in
    let w = whole e in
    record { fits = omega (arith, product e, w.last-cells, (w.pass.last refl).1, w.pass.head.description.most-capacity) }

pub returns : goal.returns
unfolding all_cells_by total_cells
returns c =
    let w = whole (goal.at.returns c).Else-checked-ne0 in
    let n : (c.check-checked.result.tiles ≡ 0 → ⊥) = λ z. omega (arith, w.tiles, w.pass.some-tiles) in
    rw (← c.check-checked.ensures, ne_eqb c.check-checked.result.tiles 0 n)
