-- `tile_metadata::check_layout` meets its contract: the definition's checks in their order. A width is below 2^32 and n at
-- most the most tiles, so that their product fits. Assumes nothing.
use Rattle.std.proofs.Common.{◌≡◌, not, ◌+◌, eqb, ◌*◌, ◌^◌, ◌≤◌, length, sym, ap, ◌∙◌, arith}
use Rattle.std.proofs.lemmas.Result.{err_from_is_err_and}
use Rattle.answers.specs.Told.{number_of}
use Rattle.answers.proofs.Told.{stops, passes}
use Rattle.answers.specs.Refusals.{bytes}
use Rattle.answers.proofs.Checks.{check-none, last}
use Rattle.tile_metadata.specs.Bodies.{buffer_size, layout_refusal}
use Rattle.tile_metadata.proofs.Bodies.{total_told, most, end_fits}
use Rattle.tile_metadata.proofs.check_layout.Goals as goal

pub returns-in_err-when : goal.returns-in_err-when
unfolding layout_refusal number_of
returns-in_err-when c =
    let p = err_from_is_err_and c.from_residual.result c.from_residual.ensures.1 in
    rw (p.1, p.2, ← c.outside-outside.ensures) (stops c.when.ensures _ c.in_err-when.was)

pub returns-in_err-when-2 : goal.returns-in_err-when-2
unfolding layout_refusal number_of
returns-in_err-when-2 c =
    let p = err_from_is_err_and c.from_residual-in_err-when-2.result c.from_residual-in_err-when-2.ensures.1 in
    rw (p.1, p.2, ← c.outside-outside.ensures) (stops c.when-2.ensures _ c.in_err-when-2.was ∙ sym (passes c.when.ensures _ c.in_ok-when.was))

pub returns-in_err-when-3 : goal.returns-in_err-when-3
unfolding layout_refusal number_of
returns-in_err-when-3 c =
    let p = err_from_is_err_and c.from_residual-in_err-when-3.result c.from_residual-in_err-when-3.ensures.1 in
    rw (p.1, p.2, ← c.outside-outside.ensures, ← c.u64_at.ensures)
    (stops c.when-3.ensures _ c.in_err-when-3.was ∙ sym (passes c.when.ensures _ c.in_ok-when.was ∙ passes c.when-2.ensures _ c.in_ok-when-2.was))

pub overflow_mul-end : goal.overflow_mul-end
overflow_mul-end c =
    let a = c.args in
    let narrow : a.width ≤ 2 ^ 32 = omega arith in
    let fits = end_fits a.width a.tiles narrow (most a.tiles c.when.ensures c.in_ok-when.was c.outside-outside.ensures) in
    omega arith

pub overflow_add-end : goal.overflow_add-end
overflow_add-end c =
    let a = c.args in
    let narrow : a.width ≤ 2 ^ 32 = omega arith in
    let fits = end_fits a.width a.tiles narrow (most a.tiles c.when.ensures c.in_ok-when.was c.outside-outside.ensures) in
    omega arith

pub overflow_add-end-2 : goal.overflow_add-end-2
overflow_add-end-2 c =
    let a = c.args in
    let narrow : a.width ≤ 2 ^ 32 = omega arith in
    let fits = end_fits a.width a.tiles narrow (most a.tiles c.when.ensures c.in_ok-when.was c.outside-outside.ensures) in
    omega arith

pub returns : goal.returns
unfolding layout_refusal number_of
returns c =
    let a = c.args in
    let s = a.body.now in
    let total = total_told c.checked_sub-rest.result (length s) _ c.u64_at-size.result c.checked_sub-rest.ensures in
    let place : 8 + a.width * a.tiles + 8 ≡ 16 + a.width * a.tiles = omega arith in
    let size = rw (c.ne.ensures ∙ ap not total, place, c.u64_at-size.ensures) at c.when-4.ensures in
    size
    ∙ sym (rw (← c.outside-outside.ensures, ← c.u64_at.ensures)
    (passes c.when.ensures _ c.in_ok-when.was ∙ passes c.when-2.ensures _ c.in_ok-when-2.was
    ∙ passes c.when-3.ensures _ c.in_ok-when-3.was
    ∙ last _ (check-none (not (eqb (length s) (16 + a.width * a.tiles + buffer_size a.width a.tiles s))) bytes (length s) (omega arith))))
