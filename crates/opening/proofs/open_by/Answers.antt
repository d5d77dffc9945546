-- `opening::open_by` meets its contract: each way out is one of the answers of opening. Assumes nothing.
use mathlib.Core.Path.{◌≡◌, ◌∙◌}
use native.Mathlib.Omega.{arith}
use Rattle.description.specs.Limits.{most_tiles}
use Rattle.description.specs.Rules.{rules_by}
use Rattle.footer.specs.Checks.{sparse}
use Rattle.footer.specs.Answer.{checked_answer_by}
use Rattle.footer.proofs.Passed.{ReadyBy}
use Rattle.opening.proofs.Answers.{said-first, passed, said-second, said-opened}
use Rattle.opening.proofs.open_by.Goals as goal
use Rattle.opening.proofs.open_by.Goals.{After-check_by-checked}

-- what is told of the footer
checked : (c : After-check_by-checked)
    → (let x = c.args in
    c.check_by-checked.result ≡ checked_answer_by (rules_by x.further) x.description x.file_size x.footer.now)
checked c = c.check_by-checked.ensures ∙ rw c.sparse.ensures

-- what an accepted footer has
has : (c : After-check_by-checked) → c.check_by-checked.result.number ≡ 0
    → (let x = c.args in
    ReadyBy (sparse x.further most_tiles) x.description x.file_size x.footer.now c.check_by-checked.result)
has c none =
    let x = c.args in
    passed (rules_by x.further) x.description x.file_size x.footer.now x.body.now (checked c) none

pub returns-then-checked-ne0 : goal.returns-then-checked-ne0
returns-then-checked-ne0 c =
    let x = c.args in
    c.refused_in.ensures
    ∙ said-first (rules_by x.further) x.description x.file_size x.footer.now x.body.now
    (checked (goal.at.returns-then-checked-ne0 c).After-check_by-checked) c.if-checked-ne0.true

pub overflow_add-to : goal.overflow_add-to
overflow_add-to c =
    let r = has (goal.at.overflow_add-to c).After-check_by-checked c.if-checked-ne0.false in
    omega (arith, r.domain-there, c.box_bytes.ensures)

pub slice_bounds-check_body-end : goal.slice_bounds-check_body-end
slice_bounds-check_body-end c =
    let r = has (goal.at.slice_bounds-check_body-end c).After-check_by-checked c.if-checked-ne0.false in
    rw c.box_bytes.ensures r.domain-there

pub check_body-told-requires-clause-least_tiles_le_tiles : goal.check_body-told-requires-clause-least_tiles_le_tiles
check_body-told-requires-clause-least_tiles_le_tiles c =
    let r = has (goal.at.check_body-told-requires-clause-least_tiles_le_tiles c).After-check_by-checked c.if-checked-ne0.false in
    rw r.tiles r.pass.some-tiles

pub check_body-told-requires-clause-tiles_le_most_tiles : goal.check_body-told-requires-clause-tiles_le_most_tiles
check_body-told-requires-clause-tiles_le_most_tiles c =
    let r = has (goal.at.check_body-told-requires-clause-tiles_le_most_tiles c).After-check_by-checked c.if-checked-ne0.false in
    rw r.tiles r.pass.most-tiles

pub check_body-told-requires-clause-description_nonzero : goal.check_body-told-requires-clause-description_nonzero
check_body-told-requires-clause-description_nonzero c =
    let r = has (goal.at.check_body-told-requires-clause-description_nonzero c).After-check_by-checked c.if-checked-ne0.false in
    omega (arith, r.pass.head.description.some_bytes)

pub returns-then-told-ne0 : goal.returns-then-told-ne0
returns-then-told-ne0 c =
    let x = c.args in
    c.refused_in-then-told-ne0.ensures
    ∙ said-second (rules_by x.further) x.description x.file_size x.footer.now x.body.now
    (checked (goal.at.returns-then-told-ne0 c).After-check_by-checked)
    c.if-checked-ne0.false c.box_bytes.ensures c.check_body-told.ensures c.if-told-ne0.true

pub returns : goal.returns
returns c =
    let x = c.args in
    said-opened (rules_by x.further) x.description x.file_size x.footer.now x.body.now
    (checked (goal.at.returns c).After-check_by-checked)
    c.if-checked-ne0.false c.box_bytes.ensures c.check_body-told.ensures c.if-told-ne0.false c.u32_at.ensures c.u32_at-2.ensures
