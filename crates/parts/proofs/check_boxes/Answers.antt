-- `parts::check_boxes` meets its contract: the fault that was found before, or what is told of the root or of the rows.
-- Assumes nothing.
use mathlib.Core.Path.{◌≡◌, sym, ◌∙◌}
use Prim.Native.Nat.{◌+◌, ◌^◌, ◌≤◌, ◌<◌}
use native.Mathlib.Omega.{arith}
use lib.ListN.{length, take, length-take}
use borrow.Author.Tests.{eq-eqb, ne_eqb}
use Rattle.answers.specs.Refusals as refusals
use Rattle.answers.specs.Told.{number_of}
use Rattle.answers.proofs.Moved.{moved-code}
use Rattle.answers.proofs.Checks.{go_on, halt}
use Rattle.description.specs.Description.{sides_of}
use Rattle.opening.proofs.Rows.{row_before}
use Rattle.rtree.proofs.Passed.{box-bytes-most}
use Rattle.parts.proofs.check_boxes.Goals.{After-from-fault, Start}
use Rattle.parts.proofs.check_boxes.Goals as goal

pub returns-then-cursor-ne0 : goal.returns-then-cursor-ne0
returns-then-cursor-ne0 c = λ _. c.new.ensures ∙ sym (halt _ _ c.if-cursor-ne0.true)

-- the domain has room for a box
domain-length : (c : Start) → length c.args.parts.domain ≡ 64
domain-length c = omega arith

box-fits : (c : Start) → c.args.box_bytes ≤ length c.args.parts.domain
box-fits c = omega (arith, c.requires.width, box-bytes-most c.args.parts.description, domain-length c)

pub returns-then-cursor-eq16 : goal.returns-then-cursor-eq16
unfolding number_of
returns-then-cursor-eq16 c = λ _.
    let none = c.if-cursor-ne0.false in
    let x = c.args in
    let said = c.from-told.ensures ∙ c.check_row.ensures in
    let told = rw (← said) at (row_before x.parts.description.kinds (sides_of x.parts.description.dimensions)
    (take x.box_bytes x.parts.domain) refusals.outside_domain x.bytes.now) in
    moved-code 16 c.from-told.result c.moved.ensures
    (omega (arith, told, c.if-cursor-eq16.true, c.requires.range.room))
    ∙ sym (go_on (refusals.refusal _ _) _ none ∙ rw (eq-eqb _ 16 c.if-cursor-eq16.true, said, c.requires.width))

pub returns-then-cursor-eq0 : goal.returns-then-cursor-eq0
returns-then-cursor-eq0 c = λ some. absurd (omega (arith, c.if-cursor-eq0.true))

pub check_rows-requires : goal.check_rows-requires
check_rows-requires c = record {
  run_of = c.requires;
  fanout_nonzero = omega (arith, c.if-cursor-eq0.false);
}

rows_fit : (c : After-from-fault) → c.args.cursor.done + c.from-fault.result.place < 2 ^ 64
rows_fit c =
    rw c.from-fault.ensures (omega (arith, c.check_rows.ensures.1, c.requires.range.room))

pub returns : goal.returns
returns c = λ _.
    let none = c.if-cursor-ne0.false in
    moved-code c.args.cursor.done c.from-fault.result c.moved-2.ensures (rows_fit (goal.at.returns c).After-from-fault)
    ∙ sym (go_on (refusals.refusal _ _) _ none ∙ rw (ne_eqb _ 16 c.if-cursor-eq16.false, c.from-fault.ensures, c.check_rows.ensures.0))

pub slice_bounds-domain-end : goal.slice_bounds-domain-end
slice_bounds-domain-end c = box-fits (goal.at.slice_bounds-domain-end c).Start

pub slice_bounds-outer-end : goal.slice_bounds-outer-end
slice_bounds-outer-end c = rw length-take (omega (arith, box-fits (goal.at.slice_bounds-outer-end c).Start))
