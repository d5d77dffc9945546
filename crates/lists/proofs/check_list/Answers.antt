-- `lists::check_list` meets its contract: the definition's checks in their order, the first before the others. A width
-- is below 2^32 and n at most the most tiles, so that their product fits. Assumes nothing.
use Rattle.std.proofs.Common.{◌≡◌, ℕ, ◌≤◌, Bool, false, Result, Ok, sym, ◌∙◌, arith}
use Rattle.std.proofs.lemmas.Result.{err_from_is_err_and}
use borrow.Author.Tests.{ltb-false}
use Rattle.answers.specs.Told.{told, number_of}
use Rattle.answers.specs.declared.Refused.{Refused}
use Rattle.answers.specs.Refusals.{bytes, tiles}
use Rattle.answers.specs.Checks.{check}
use Rattle.answers.proofs.Told.{ok-clear, passes, stops}
use Rattle.answers.proofs.Checks.{check-clear}
use Rattle.description.specs.Limits.{least_tiles, most_tiles, outside}
use Rattle.lists.specs.Lists.{list_refusal_by}
use Rattle.lists.proofs.Header.{neither, last-check}
use Rattle.lists.proofs.check_list.Goals as goal

pub returns-in_err-when-2 : goal.returns-in_err-when-2
unfolding number_of list_refusal_by
returns-in_err-when-2 c =
    let p = err_from_is_err_and c.from_residual-in_err-when-2.result c.from_residual-in_err-when-2.ensures.1 in
    rw (p.1, p.2, ← c.tiles_outside.ensures)
    (stops c.when-2.ensures _ c.in_err-when-2.was ∙ sym (passes c.when.ensures _ c.in_ok-when.was))

pub returns-in_err-when-3 : goal.returns-in_err-when-3
unfolding number_of list_refusal_by
returns-in_err-when-3 c =
    let p = err_from_is_err_and c.from_residual-in_err-when-3.result c.from_residual-in_err-when-3.ensures.1 in
    rw (p.1, p.2, ← c.tiles_outside.ensures, ← c.u64_at.ensures)
    (stops c.when-3.ensures _ c.in_err-when-3.was
    ∙ sym (passes c.when.ensures _ c.in_ok-when.was ∙ passes c.when-2.ensures _ c.in_ok-when-2.was))

few : {r : Result Unit Refused} {u : Unit} {b : Bool} {n : ℕ} → told r ≡ check b tiles 0 → r ≡ Ok u
    → b ≡ outside least_tiles most_tiles n → n ≤ most_tiles
few {b = b} says e is =
    let inside : b ≡ false = check-clear b tiles 0 (omega arith) (ok-clear says e) in
    ltb-false _ _ (neither _ _ (sym is ∙ inside)).1

pub overflow_mul-total : goal.overflow_mul-total
unfolding number_of
overflow_mul-total c =
    let most : c.args.tiles ≤ most_tiles = few c.when.ensures c.in_ok-when.was c.tiles_outside.ensures in
    grind arith

pub overflow_add-total : goal.overflow_add-total
unfolding number_of
overflow_add-total c =
    let most : c.args.tiles ≤ most_tiles = few c.when.ensures c.in_ok-when.was c.tiles_outside.ensures in
    grind arith

pub returns : goal.returns
unfolding number_of list_refusal_by
returns c =
    rw (← c.tiles_outside.ensures, ← c.u64_at.ensures)
    (c.when-4.ensures ∙ sym (last-check _ bytes _ (omega arith))
    ∙ sym (passes c.when.ensures _ c.in_ok-when.was ∙ passes c.when-2.ensures _ c.in_ok-when-2.was
    ∙ passes c.when-3.ensures _ c.in_ok-when-3.was))
