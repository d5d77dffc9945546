-- `boxes::read_box` meets its contract. Assumes nothing.
use Rattle.std.proofs.Common.{sym, ◌∙◌, arith}
use Rattle.description.proofs.Sides.{start_first}
use Rattle.boxes.proofs.Walking.{next_place, place-fits, box-none, box-on}
use Rattle.boxes.proofs.read_box.Goals as goal

pub loop-i-init : goal.loop-i-init
loop-i-init c =
    let a = c.args in
    (sym (start_first a.kinds), c.no_box-sides.ensures ∙ sym (box-none a.kinds a.bytes.now))

pub overflow_add-at : goal.overflow_add-at
overflow_add-at c =
    place-fits _ _ _ c.loop-i.invariant.0 _ c.range_bytes-at.ensures (omega (arith, c.sides_of-n.ensures))

pub loop-i-preserved : goal.loop-i-preserved
loop-i-preserved c =
    let a = c.args in (
      next_place _ _ _ c.loop-i.invariant.0 _ c.range_bytes-at.ensures,
      box-on a.kinds a.bytes.now c.loop-i.i (omega (arith, c.sides_of-n.ensures, c.loop-i-test))
          c.loop-i.invariant.0 c.loop-i.invariant.1 c.read-range.ensures,
    )
