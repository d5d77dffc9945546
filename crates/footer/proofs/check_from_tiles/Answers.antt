-- `footer::check_from_tiles` meets its contract: each check of the list in turn. Assumes nothing.
use Rattle.std.proofs.Common.{◌≡◌, sym, ◌∙◌, arith}
use Rattle.answers.specs.Checks.{first}
use Rattle.answers.specs.Told.{number_of}
use Rattle.answers.proofs.Told.{stops, passes, ends, exits}
use Rattle.footer.specs.Code.Places.{checks_from_tiles}
use Rattle.footer.proofs.Fields.{footer-bytes, start-tiles}
use Rattle.footer.proofs.Parts.{from_at, from-listed}
use Rattle.footer.proofs.check_from_tiles.Goals as goal
use Rattle.footer.proofs.check_from_tiles.Goals.{After-check_number}

listed : (c : After-check_number)
    → (let a = c.args in first (from_at a.entry a.description a.file_size a.bytes.now a.tiles) ≡ first (checks_from_tiles a.entry a.description a.bytes.now a.file_size))
listed c =
    let a = c.args in
    let d = a.description in
    from-listed a.entry d a.file_size a.bytes.now a.tiles
    (omega (arith, c.requires, footer-bytes d a.bytes.now, start-tiles d a.bytes.now)) c.requires.0

pub returns-in_err-check_number : goal.returns-in_err-check_number
unfolding number_of
returns-in_err-check_number c =
    exits _ _ c.from_residual.ensures.1
    (stops c.check_number.ensures _ c.in_err-check_number.was ∙ listed (goal.at.returns-in_err-check_number c).After-check_number)

pub returns-in_err-check_last_cells : goal.returns-in_err-check_last_cells
unfolding number_of
returns-in_err-check_last_cells c =
    exits _ _ c.from_residual-in_err-check_last_cells.ensures.1
    (stops c.check_last_cells.ensures _ c.in_err-check_last_cells.was
    ∙ sym (passes c.check_number.ensures _ c.in_ok-check_number.was)
    ∙ listed (goal.at.returns-in_err-check_last_cells c).After-check_number)

pub returns-in_err-check_flag : goal.returns-in_err-check_flag
unfolding number_of
returns-in_err-check_flag c =
    exits _ _ c.from_residual-in_err-check_flag.ensures.1
    (stops c.check_flag.ensures _ c.in_err-check_flag.was
    ∙ sym (
    passes c.check_number.ensures _ c.in_ok-check_number.was
    ∙ passes c.check_last_cells.ensures _ c.in_ok-check_last_cells.was
    )
    ∙ listed (goal.at.returns-in_err-check_flag c).After-check_number)

pub returns-in_err-check_flag-2 : goal.returns-in_err-check_flag-2
unfolding number_of
returns-in_err-check_flag-2 c =
    exits _ _ c.from_residual-in_err-check_flag-2.ensures.1
    (stops c.check_flag-2.ensures _ c.in_err-check_flag-2.was
    ∙ sym (
    passes c.check_number.ensures _ c.in_ok-check_number.was
    ∙ passes c.check_last_cells.ensures _ c.in_ok-check_last_cells.was
    ∙ passes c.check_flag.ensures _ c.in_ok-check_flag.was
    )
    ∙ listed (goal.at.returns-in_err-check_flag-2 c).After-check_number)

pub returns-in_err-check_offsets : goal.returns-in_err-check_offsets
unfolding number_of
returns-in_err-check_offsets c =
    exits _ _ c.from_residual-in_err-check_offsets.ensures.1
    (stops c.check_offsets.ensures _ c.in_err-check_offsets.was
    ∙ sym (
    passes c.check_number.ensures _ c.in_ok-check_number.was
    ∙ passes c.check_last_cells.ensures _ c.in_ok-check_last_cells.was
    ∙ passes c.check_flag.ensures _ c.in_ok-check_flag.was
    ∙ passes c.check_flag-2.ensures _ c.in_ok-check_flag-2.was
    )
    ∙ listed (goal.at.returns-in_err-check_offsets c).After-check_number)

pub returns : goal.returns
unfolding number_of
returns c =
    let length = rw c.u64_at.ensures at c.when.ensures in
    length
    ∙ sym (
    passes c.check_number.ensures _ c.in_ok-check_number.was
    ∙ passes c.check_last_cells.ensures _ c.in_ok-check_last_cells.was
    ∙ passes c.check_flag.ensures _ c.in_ok-check_flag.was
    ∙ passes c.check_flag-2.ensures _ c.in_ok-check_flag-2.was
    ∙ passes c.check_offsets.ensures _ c.in_ok-check_offsets.was
    ∙ ends _ _ length
    )
    ∙ listed (goal.at.returns c).After-check_number
