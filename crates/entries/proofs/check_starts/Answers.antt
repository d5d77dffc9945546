-- `entries::check_starts` meets its contract: bytes that are too few end the check, and else the loop decides. Assumes
-- nothing.
use Rattle.std.proofs.Common.{◌≡◌, ℕ, ◌+◌, ◌*◌, ◌/◌, ◌≤◌, false, leb, Result, Ok, sym, ◌∙◌, arith}
use Rattle.std.proofs.lemmas.Result.{err_from_is_err_and}
use borrow.Author.Tests.{leb-false}
use Rattle.answers.specs.Told.{told, number_of}
use Rattle.answers.specs.declared.Refused.{Refused}
use Rattle.answers.specs.Refusals.{bytes}
use Rattle.answers.specs.Checks.{check}
use Rattle.answers.proofs.Checks.{check-clear}
use Rattle.answers.proofs.Told.{ok-clear, stops}
use Rattle.lists.specs.VarOffsets.{starts_refusal}
use Rattle.entries.proofs.Entries.{short-is, starts-decide}
use Rattle.entries.proofs.check_starts.Goals as goal

pub returns-in_err-when : goal.returns-in_err-when
unfolding number_of starts_refusal
returns-in_err-when c =
    let p = err_from_is_err_and c.from_residual.result c.from_residual.ensures.1 in
    rw (p.1, p.2, ← short-is) (stops c.when.ensures _ c.in_err-when.was)

enough : (l n : ℕ) {r : Result Unit Refused} {u : Unit} → told r ≡ check (leb (l / 8) n) bytes l → r ≡ Ok u → 8 + 8 * n ≤ l
enough l n says e =
    let more : leb (l / 8) n ≡ false = check-clear _ bytes l (omega arith) (ok-clear says e) in
    omega (arith, leb-false _ _ more)

pub scan-requires : goal.scan-requires
unfolding number_of
scan-requires c = enough _ _ c.when.ensures c.in_ok-when.was

pub returns-in_err-scan : goal.returns-in_err-scan
unfolding told number_of
returns-in_err-scan c =
    let p = err_from_is_err_and c.from_residual-in_err-scan.result c.from_residual-in_err-scan.ensures.1 in
    rw (p.1, p.2) (c.in_err-scan.ensures ∙ sym (starts-decide _ _ _ (enough _ _ c.when.ensures c.in_ok-when.was)))

pub returns : goal.returns
unfolding told number_of
returns c = sym (starts-decide _ _ _ (enough _ _ c.when.ensures c.in_ok-when.was) ∙ c.in_ok-scan.ensures.0)
