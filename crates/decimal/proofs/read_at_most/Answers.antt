-- `decimal::read_at_most` meets its contract, byte after byte. Assumes nothing.
use Rattle.std.proofs.Common.{arith, sym, ◌∙◌}
use Rattle.decimal.proofs.Steps.{read-start, read-wrong-start, read-on-at, read-stop-at, next-most, read_all}
use Rattle.decimal.proofs.read_at_most.Goals as goal

pub returns-then-not-starts_well : goal.returns-then-not-starts_well
returns-then-not-starts_well c =
    let x = c.args in
    read-wrong-start x.most x.text.now (sym c.starts_well.ensures ∙ c.if-not-starts_well.true)

pub loop-byte-init : goal.loop-byte-init
loop-byte-init c =
    let x = c.args in
    (omega arith, read-start x.most x.text.now (sym c.starts_well.ensures ∙ c.if-not-starts_well.false))

pub returns-in_err-value : goal.returns-in_err-value
returns-in_err-value c =
    let x = c.args in
    let l = c.loop-byte in
    c.from_residual.ensures ∙ (read-stop-at x.most l.value l.byte-index x.text.now (omega arith) (sym c.in_err-value.ensures) ∙ sym l.invariant.1)

pub loop-byte-preserved : goal.loop-byte-preserved
loop-byte-preserved c =
    let x = c.args in
    let l = c.loop-byte in
    let e = sym c.in_ok-value.ensures in
    (next-most x.most l.value _ e, l.invariant.1 ∙ read-on-at x.most l.value l.byte-index x.text.now (omega arith) e)

pub returns : goal.returns
returns c =
    let x = c.args in
    let l = c.loop-byte in
    sym (l.invariant.1 ∙ read_all x.most l.value l.byte-index x.text.now (omega arith) l.invariant.0)
