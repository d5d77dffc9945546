-- `footer::check_offsets` meets its contract. Assumes nothing.
use Rattle.std.proofs.Common.{◌≡◌, ℕ, not, leb, ltb, sym, ◌∙◌, arith}
use Rattle.std.proofs.lemmas.Bool.Decides.{nat_tests}
use Rattle.answers.specs.Refusals.{none}
use Rattle.answers.specs.Checks.{otherwise}
use Rattle.answers.specs.Told.{number_of}
use Rattle.answers.proofs.Runs.{over-start}
use Rattle.answers.proofs.Told.{passes-left, stops-left, done-left, exits}
use Rattle.footer.specs.Fields.{file_offsets_refusal}
use Rattle.footer.proofs.check_offsets.Invariants.{said}
use Rattle.footer.proofs.check_offsets.Goals as goal

not-below : (a b : ℕ) → leb a b ≡ not (ltb b a)
not-below a b = grind (arith, nat_tests)

pub loop-i-init : goal.loop-i-init
unfolding file_offsets_refusal said
loop-i-init c = over-start otherwise none _ _

pub returns-in_err-when : goal.returns-in_err-when
unfolding said number_of
returns-in_err-when c =
    let a = c.args in
    let here = rw (c.u64_at-offset.ensures, not-below) at c.when.ensures in
    exits _ _ c.from_residual.ensures.1
    (stops-left (said a.bytes.now a.at a.limit) _ _ c.loop-i-test.true here c.in_err-when.was ∙ sym c.loop-i.invariant)

pub loop-i-preserved : goal.loop-i-preserved
unfolding said number_of
loop-i-preserved c =
    let a = c.args in
    let here = rw (c.u64_at-offset.ensures, not-below) at c.when.ensures in
    c.loop-i.invariant ∙ passes-left (said a.bytes.now a.at a.limit) _ _ c.loop-i-test.true here c.in_ok-when.was

pub returns : goal.returns
returns c =
    let a = c.args in
    done-left (said a.bytes.now a.at a.limit) _ _ c.loop-i-test.false ∙ sym c.loop-i.invariant
