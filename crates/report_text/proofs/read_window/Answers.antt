-- `report_text::read_window` meets its contract. The invariant: the lines of the first i sides are read. Assumes nothing.
use mathlib.Core.Path.{◌≡◌, sym, ◌∙◌}
use native.Mathlib.Omega.{arith}
use lib.ListN.{length-set}
use Rattle.answers.proofs.Filled.{filled_none}
use Rattle.boxes.specs.Boxes.{no_side}
use Rattle.report_text.specs.Asked.{window_line, window_side}
use Rattle.report_text.proofs.Reading.{sides-none, sides-more, sides-unread, kind-back}
use Rattle.report_text.proofs.read_window.Goals as goal

pub loop-i-init : goal.loop-i-init
loop-i-init c =
    (rw c.no_box-sides.ensures, λ t n k. sides-none t c.args.d n (c.no_box-sides.ensures ∙ sym (filled_none (window_side t c.args.d) no_side 4)))

pub returns-in_err-sides : goal.returns-in_err-sides
returns-in_err-sides c t n k =
    let s = c.loop-i.invariant.1 t n k in
    let r = c.in_err-sides.ensures t (window_line t c.args.d c.loop-i.i) s.next in
    rw c.from_residual.ensures (sides-unread t c.args.d c.loop-i.i (omega arith) (rw (kind-back t c.args.d c.loop-i.i (omega arith) (omega arith) k) at r.0))

pub loop-i-preserved : goal.loop-i-preserved
loop-i-preserved c = (
  length-set c.loop-i.sides c.loop-i.i c.in_ok-sides.field-0 ∙ c.loop-i.invariant.0,
  λ t n k.
      let s = c.loop-i.invariant.1 t n k in
      let r = c.in_ok-sides.ensures t (window_line t c.args.d c.loop-i.i) s.next in
      sides-more t c.args.d c.loop-i.i (omega arith) s (rw (kind-back t c.args.d c.loop-i.i (omega arith) (omega arith) k) at r.0) r.1,
)

pub returns : goal.returns
returns c t n k =
    let e : c.loop-i.i ≡ c.args.d = omega arith in
    rw e at (c.loop-i.invariant.1 t n k)
