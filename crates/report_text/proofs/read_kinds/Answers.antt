-- `report_text::read_kinds` meets its contract. The invariant: the lines of the first i kinds are read. Assumes nothing.
use mathlib.Core.Path.{◌≡◌, refl, ◌∙◌}
use Prim.Native.Nat.{◌+◌}
use native.Mathlib.Omega.{arith}
use lib.ListN.{length-set}
use Rattle.report_text.proofs.Reading.{kinds-none, kinds-more, kinds-unread, kinds-other}
use Rattle.report_text.proofs.read_kinds.Goals as goal

pub loop-i-init : goal.loop-i-init
loop-i-init c = (refl, λ t n. kinds-none t n refl)

pub returns-in_err-bits : goal.returns-in_err-bits
returns-in_err-bits c t n =
    let k = c.loop-i.invariant.1 t n in
    let r = c.in_err-bits.ensures t (1 + c.loop-i.i) k.next in
    rw c.from_residual.ensures (kinds-unread t c.args.d c.loop-i.i (omega arith) r.0)

pub returns-in_err-kinds : goal.returns-in_err-kinds
returns-in_err-kinds c t n =
    let k = c.loop-i.invariant.1 t n in
    let r = c.in_ok-bits.ensures t (1 + c.loop-i.i) k.next in
    rw c.from_residual-in_err-kinds.ensures (kinds-other t c.args.d c.loop-i.i (omega arith) r.0 c.in_err-kinds.ensures)

pub loop-i-preserved : goal.loop-i-preserved
loop-i-preserved c = (
  length-set c.loop-i.kinds c.loop-i.i c.in_ok-kinds.field-0 ∙ c.loop-i.invariant.0,
  λ t n.
      let k = c.loop-i.invariant.1 t n in
      kinds-more t c.loop-i.i (omega arith) k (c.in_ok-bits.ensures t (1 + c.loop-i.i) k.next) c.in_ok-kinds.ensures,
)

pub returns : goal.returns
returns c t n =
    let e : c.loop-i.i ≡ c.args.d = omega arith in
    rw e at (c.loop-i.invariant.1 t n)
