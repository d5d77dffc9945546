-- `decimal::fill` meets its contract: at first all digits are left, and at last one. Assumes nothing.
use Rattle.std.proofs.Common.{◌≡◌, ◌+◌, ◌-◌, ◌<◌, length, arith, refl, ◌∙◌}
use Rattle.decimal.specs.Decimal.{decimal}
use Rattle.decimal.proofs.Written.{length_more, some-digit, one-digit, more-digits}
use Rattle.decimal.proofs.Put.{write-one, write-last}
use Rattle.decimal.proofs.fill.Goals.{After-loop-place}
use Rattle.decimal.proofs.fill.Goals as goal

pub loop-place-init : goal.loop-place-init
loop-place-init c = (omega (arith, c.requires.0), refl)

pub loop-place-preserved : goal.loop-place-preserved
loop-place-preserved c =
    let l = c.loop-place in
    let at = c.args.at in
    let many = more-digits l.rest (omega (arith, l.invariant.0)) in (
      omega (arith, l.invariant.0, length_more l.rest many),
      rw c.digit.ensures (write-one l.out at l.rest (l.place - 1) many (omega (arith, l.invariant.0))) ∙ l.invariant.1,
    )

-- one digit is left, and its place is the first
last : (c : After-loop-place) → (c.loop-place.rest < 10) × (c.args.at + 1 ≡ c.args.at + length (decimal c.loop-place.rest))
last c =
    let l = c.loop-place in
    let one : length (decimal l.rest) ≡ 1 = omega (arith, l.invariant.0, some-digit l.rest) in
    (one-digit l.rest one, omega (arith, one))

pub digit-requires-2 : goal.digit-requires-2
digit-requires-2 c = (last (goal.at.digit-requires-2 c).After-loop-place).0

pub bounds-out-at : goal.bounds-out-at
bounds-out-at c = omega (arith, some-digit c.args.n, c.requires, c.loop-place.auto.out)

pub returns : goal.returns
returns c =
    let l = c.loop-place in
    let o = last (goal.at.returns c).After-loop-place in
    rw c.digit-2.ensures (write-last l.out c.args.at l.rest c.args.at o.0 o.1) ∙ l.invariant.1
