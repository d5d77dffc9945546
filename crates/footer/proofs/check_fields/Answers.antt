-- `footer::check_fields` meets its contract: a head that is not refused keeps every place small (`small`), so that the
-- total is the definition's (`total-is`); then the number of bytes, and then the fields decide. Assumes nothing.
use Rattle.std.proofs.Common.{◌≡◌, ◌+◌, ◌*◌, ◌≤◌, not, eqb, ltb, length, sym, ◌∙◌, arith}
use Rattle.answers.specs.Refusals.{none}
use Rattle.answers.specs.Checks.{otherwise, first}
use Rattle.answers.specs.Told.{told, number_of}
use Rattle.answers.proofs.Checks.{ended, first-append}
use Rattle.answers.proofs.Told.{stops, passes, halts, goes_on, comes_next, ok-clear, exits}
use Rattle.description.specs.Limits.{most_name, most_fields}
use Rattle.description.specs.Description.{bytes_of_box}
use Rattle.footer.specs.Fields.{wrong_bytes, footer_bytes}
use Rattle.footer.specs.Code.Places.{size_checks, checks_before_tiles, checks_from_tiles, fields_checks, BeforeTiles, FromTiles}
use Rattle.footer.proofs.Fields.{footer-bytes, start-dense, start-tiles}
use Rattle.footer.proofs.Parts.{rest-parts}
use Rattle.footer.proofs.Passed.{names-passed, sizes-passed}
use Rattle.footer.proofs.check_fields.Goals as goal
use Rattle.footer.proofs.check_fields.Goals.{After-u64_at, After-box_bytes, After-when, After-when-2, In_ok-when-2}

pub returns-in_err-check_head : goal.returns-in_err-check_head
returns-in_err-check_head c =
    let a = c.args in
    exits _ _ c.from_residual.ensures.1
    (halts c.check_head.ensures _ c.in_err-check_head.was ∙ sym (rest-parts a.entry a.description a.file_size a.bytes.now))

small : (c : After-u64_at)
    → (c.u64_at.result ≤ most_name) × (c.args.description.fields ≤ most_fields) × (bytes_of_box c.args.description ≤ 64)
small c =
    let a = c.args in
    let k = names-passed a.entry a.description a.file_size a.bytes.now c.requires (ok-clear c.check_head.ensures c.in_ok-check_head.was) in
    (rw c.u64_at.ensures k.most-name, k.description.most-fields, k.description.most_bytes)

total-is : (c : After-box_bytes)
    → 12 + c.u64_at.result + 2 + c.box_bytes.result + 50 + 88 * c.args.description.fields
    ≡ footer_bytes c.args.description c.args.bytes.now
total-is c =
    let a = c.args in
    omega (arith, footer-bytes a.description a.bytes.now, c.u64_at.ensures, c.box_bytes.ensures)

pub overflow_add-dense : goal.overflow_add-dense
overflow_add-dense c = record { fits = omega (arith, small (goal.at.overflow_add-dense c).After-u64_at) }

pub overflow_add-tiles : goal.overflow_add-tiles
overflow_add-tiles c = record { fits = omega (arith, small (goal.at.overflow_add-tiles c).After-u64_at) }

pub overflow_add-tiles-2 : goal.overflow_add-tiles-2
overflow_add-tiles-2 c =
    record { fits = omega (arith, small (goal.at.overflow_add-tiles-2 c).After-u64_at, c.box_bytes.ensures) }

pub overflow_add-total : goal.overflow_add-total
overflow_add-total c =
    record { fits = omega (arith, small (goal.at.overflow_add-total c).After-u64_at, c.box_bytes.ensures) }

pub overflow_mul-total : goal.overflow_mul-total
overflow_mul-total c =
    record { fits = omega (arith, small (goal.at.overflow_mul-total c).After-u64_at, c.box_bytes.ensures) }

pub overflow_add-total-2 : goal.overflow_add-total-2
overflow_add-total-2 c =
    record { fits = omega (arith, small (goal.at.overflow_add-total-2 c).After-u64_at, c.box_bytes.ensures) }

-- the number of bytes
whole-told : (c : After-when)
    → told c.when.result
    ≡ wrong_bytes c.args.bytes.now (not (eqb (length c.args.bytes.now) (footer_bytes c.args.description c.args.bytes.now)))
unfolding number_of
whole-told c = rw (total-is (goal.at.After-when c).After-box_bytes) at c.when.ensures

file-told : (c : After-when-2)
    → told c.when-2.result
    ≡ wrong_bytes c.args.bytes.now (ltb c.args.file_size (footer_bytes c.args.description c.args.bytes.now))
unfolding number_of
file-told c = rw (total-is (goal.at.After-when-2 c).After-box_bytes) at c.when-2.ensures

pub returns-in_err-when : goal.returns-in_err-when
returns-in_err-when c =
    let a = c.args in
    let whole = whole-told (goal.at.returns-in_err-when c).After-when in
    exits _ _ c.from_residual-in_err-when.ensures.1
    (stops whole _ c.in_err-when.was
    ∙ sym (goes_on c.check_head.ensures _ c.in_ok-check_head.was)
    ∙ sym (rest-parts a.entry a.description a.file_size a.bytes.now))

pub returns-in_err-when-2 : goal.returns-in_err-when-2
returns-in_err-when-2 c =
    let a = c.args in
    let whole = whole-told (goal.at.returns-in_err-when-2 c).After-when in
    let file = file-told (goal.at.returns-in_err-when-2 c).After-when-2 in
    exits _ _ c.from_residual-in_err-when-2.ensures.1
    (stops file _ c.in_err-when-2.was
    ∙ sym (passes whole _ c.in_ok-when.was)
    ∙ sym (goes_on c.check_head.ensures _ c.in_ok-check_head.was)
    ∙ sym (rest-parts a.entry a.description a.file_size a.bytes.now))

-- the places that the fields are checked by
places : (c : In_ok-when-2)
    → (let a = c.args in
    let dense = 12 + c.u64_at.result in
    let tiles = dense + 2 + c.box_bytes.result in
    BeforeTiles a.description a.bytes.now dense tiles × FromTiles a.description a.bytes.now a.file_size tiles)
places c =
    let a = c.args in
    let d = a.description in
    let total = total-is (goal.at.In_ok-when-2 c).After-box_bytes in
    let whole = whole-told (goal.at.In_ok-when-2 c).After-when in
    let file = file-told (goal.at.In_ok-when-2 c).After-when-2 in
    let none : first (size_checks a.entry d a.bytes.now a.file_size) ≡ none
    = passes whole _ c.in_ok-when.was ∙ passes file _ c.in_ok-when-2.was ∙ ended in
    let z = sizes-passed a.entry d a.file_size a.bytes.now (rw none) in
    let e = c.u64_at.ensures in
    let w = c.box_bytes.ensures in (
      (omega (arith, e, start-dense d a.bytes.now), omega (arith, w), omega (arith, z, total)),
      (omega (arith, e, w, start-tiles d a.bytes.now), omega (arith, z, total), omega (arith, z)),
    )

pub check_from_tiles-from-requires : goal.check_from_tiles-from-requires
check_from_tiles-from-requires c = (places (goal.at.check_from_tiles-from-requires c).In_ok-when-2).1

pub check_before_tiles-requires : goal.check_before_tiles-requires
check_before_tiles-requires c = (places (goal.at.check_before_tiles-requires c).In_ok-when-2).0

-- past the number of bytes
sized : (c : In_ok-when-2)
    → (let a = c.args in
    first (fields_checks a.entry a.description a.bytes.now a.file_size)
    ≡ otherwise (first (checks_before_tiles a.entry a.description a.bytes.now)) (first (checks_from_tiles a.entry a.description a.bytes.now a.file_size)))
sized c =
    let a = c.args in
    let whole = whole-told (goal.at.In_ok-when-2 c).After-when in
    let file = file-told (goal.at.In_ok-when-2 c).After-when-2 in
    rest-parts a.entry a.description a.file_size a.bytes.now
    ∙ goes_on c.check_head.ensures _ c.in_ok-check_head.was
    ∙ passes whole _ c.in_ok-when.was
    ∙ passes file _ c.in_ok-when-2.was
    ∙ first-append (checks_before_tiles a.entry a.description a.bytes.now) (checks_from_tiles a.entry a.description a.bytes.now a.file_size)

pub returns-in_err-check_before_tiles : goal.returns-in_err-check_before_tiles
returns-in_err-check_before_tiles c =
    exits _ _ c.from_residual-in_err-check_before_tiles.ensures.1
    (halts c.check_before_tiles.ensures _ c.in_err-check_before_tiles.was
    ∙ sym (sized (goal.at.returns-in_err-check_before_tiles c).In_ok-when-2))

pub returns : goal.returns
returns c =
    comes_next _ c.check_before_tiles.ensures c.check_from_tiles-from.ensures c.in_ok-check_before_tiles.was
    ∙ sym (sized (goal.at.returns c).In_ok-when-2)
