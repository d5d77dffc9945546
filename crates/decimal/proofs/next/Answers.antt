-- `decimal::next` meets its contract: a byte that is no digit, a number that 64 bits do not hold, and one past the most
-- are no fit. Assumes nothing.
use Rattle.std.proofs.Common.{◌≡◌, ◌+◌, ◌-◌, ◌*◌, arith, sym, ap, ◌∙◌}
use Rattle.std.specs.Prelude.{Some}
use Rattle.decimal.proofs.Steps.{next_other, next_past, next_fits}
use Rattle.decimal.proofs.next.Goals as goal

pub returns-then-not-is_ascii_digit : goal.returns-then-not-is_ascii_digit
returns-then-not-is_ascii_digit c = next_other c.args.most c.args.value c.args.byte (sym c.if-not-is_ascii_digit.ensures.value)

pub returns-in_err-checked_mul : goal.returns-in_err-checked_mul
returns-in_err-checked_mul c =
    c.from_residual.ensures ∙ next_past c.args.most c.args.value c.args.byte (omega (arith, c.in_err-checked_mul.ensures))

pub returns-in_err-next : goal.returns-in_err-next
returns-in_err-next c =
    c.from_residual-in_err-next.ensures
    ∙ next_past c.args.most c.args.value c.args.byte (omega (arith, c.in_err-next.ensures, c.in_ok-checked_mul.ensures))

pub returns-then-next-most : goal.returns-then-next-most
returns-then-next-most c =
    let x = c.args in
    let e : c.in_ok-next.next ≡ 10 * x.value + (x.byte - 48) = omega (arith, c.in_ok-next.ensures, c.in_ok-checked_mul.ensures) in
    ap Some e ∙ next_fits x.most x.value x.byte (sym c.if-not-is_ascii_digit.ensures.value) (omega arith)

pub returns-else-next-most : goal.returns-else-next-most
returns-else-next-most c =
    next_past c.args.most c.args.value c.args.byte (omega (arith, c.in_ok-next.ensures, c.in_ok-checked_mul.ensures))
