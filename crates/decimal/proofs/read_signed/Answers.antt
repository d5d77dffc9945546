-- `decimal::read_signed` meets its contract: by the first byte, and after a minus by whether the number is 0. Assumes nothing.
use Rattle.std.proofs.Common.{◌≡◌, ◌≤◌, ◌-◌, suc, pos, ◌-ℤ◌, to_z, of_z, w64, arith, sym, ap, ◌∙◌}
use lib.IntN.{negsuc}
use Rattle.std.specs.Prelude.{Some}
use Rattle.std.proofs.lemmas.Int.{ints}
use Rattle.decimal.specs.Read.{below_zero}
use Rattle.decimal.proofs.Signed.{minus-is, plain_is}
use Rattle.decimal.proofs.Steps.{read-most}
use Rattle.decimal.proofs.read_signed.Goals as goal

pub returns-in_err-below-in-Some : goal.returns-in_err-below-in-Some
returns-in_err-below-in-Some c =
    let e = c.in-Some.ensures.cases in
    c.from_residual.ensures ∙ minus-is c.args.half c.args.text.now e.0 e.1 c.in_err-below-in-Some.ensures

pub returns-in_err-past-in-Some : goal.returns-in_err-past-in-Some
returns-in_err-past-in-Some c =
    let e = c.in-Some.ensures.cases in
    let z : c.in_ok-below-in-Some.below ≡ 0 = omega (arith, c.in_err-past-in-Some.ensures) in
    c.from_residual-in_err-past-in-Some.ensures
    ∙ (ap below_zero (ap Some (sym z)) ∙ minus-is c.args.half c.args.text.now e.0 e.1 c.in_ok-below-in-Some.ensures)

pub overflow_cast-result : goal.overflow_cast-result
overflow_cast-result c =
    let l : c.in_ok-below-in-Some.below ≤ c.args.half = read-most c.args.half c.in-Some.digits.now (sym c.in_ok-below-in-Some.ensures) in
    omega (arith, ints, c.in_ok-past-in-Some.ensures)

pub returns-in_err-number-in-None : goal.returns-in_err-number-in-None
returns-in_err-number-in-None c =
    c.from_residual-in_err-number-in-None.ensures
    ∙ plain_is c.args.half c.args.text.now c.in-None.ensures.cases c.in_err-number-in-None.ensures

pub overflow_cast-result-in-None : goal.overflow_cast-result-in-None
overflow_cast-result-in-None c =
    let l : c.in_ok-number-in-None.number ≤ c.args.half - 1 = read-most (c.args.half - 1) c.args.text.now (sym c.in_ok-number-in-None.ensures) in
    omega (arith, ints)

pub returns-in_ok-past-in-Some : goal.returns-in_ok-past-in-Some
returns-in_ok-past-in-Some c =
    let past = c.in_ok-past-in-Some.past in
    let e = c.in-Some.ensures.cases in
    let l : c.in_ok-below-in-Some.below ≤ c.args.half = read-most c.args.half c.in-Some.digits.now (sym c.in_ok-below-in-Some.ensures) in
    let more : suc past ≡ c.in_ok-below-in-Some.below = omega (arith, c.in_ok-past-in-Some.ensures) in
    let z : to_z w64 (of_z w64 (negsuc 0 -ℤ to_z w64 past)) ≡ negsuc past = omega (arith, ints) in
    ap Some z ∙ (ap below_zero (ap Some more) ∙ minus-is c.args.half c.args.text.now e.0 e.1 c.in_ok-below-in-Some.ensures)

pub returns-in_ok-number-in-None : goal.returns-in_ok-number-in-None
returns-in_ok-number-in-None c =
    let n = c.in_ok-number-in-None.number in
    let l : n ≤ c.args.half - 1 = read-most (c.args.half - 1) c.args.text.now (sym c.in_ok-number-in-None.ensures) in
    let z : to_z w64 n ≡ pos n = omega (arith, ints) in
    ap Some z ∙ plain_is c.args.half c.args.text.now c.in-None.ensures.cases c.in_ok-number-in-None.ensures
