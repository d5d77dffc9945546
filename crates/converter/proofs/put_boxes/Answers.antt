-- `converter::put_boxes` meets its contract. The invariant: the buffer holds the first k boxes. Assumes nothing.
use Prim.Native.Nat.{◌+◌, ◌-◌, ◌*◌}
use mathlib.Core.Path.{◌≡◌, refl, ap, ◌∙◌}
use native.Mathlib.Omega.{arith}
use lib.ListN.{length, length-take, length-drop}
use lib.Seq.{length-sets}
use Rattle.answers.specs.Runs.{over}
use Rattle.converter.proofs.Boxes.{box-there, box-room, box-next}
use Rattle.converter.proofs.put_boxes.Goals as goal

pub loop-k-init : goal.loop-k-init
unfolding over
loop-k-init c = (omega arith, refl, refl)

pub loop-k-preserved : goal.loop-k-preserved
loop-k-preserved c =
    let l = c.loop-k in
    let x = c.args in
    let size : x.from + l.k * x.old + x.old - (x.from + l.k * x.old) ≡ x.old = omega arith in (
      omega (arith, c.loop-k-test),
      ap length c.put_box.ensures ∙ simp length-sets l.invariant.1,
      box-next c.requires x.out.now l.k c.loop-k-test.true l.out _ l.invariant.2 (rw (size, c.requires.own) at c.put_box.ensures),
    )

pub put_box-requires-clause-bytes_len : goal.put_box-requires-clause-bytes_len
put_box-requires-clause-bytes_len c =
    simp (length-take, length-drop) (omega (arith, box-there c.requires c.loop-k.k c.loop-k-test.true, c.requires.own))

pub put_box-requires-clause-description_in_bounds : goal.put_box-requires-clause-description_in_bounds
put_box-requires-clause-description_in_bounds c =
    omega (arith, box-room c.requires c.loop-k.k c.loop-k-test.true, c.requires.new, c.loop-k.invariant.1)

pub returns : goal.returns
returns c =
    let l = c.loop-k in
    let all : l.k ≡ c.args.count = omega (arith, c.loop-k-test, l.invariant.0) in
    l.invariant.2 ∙ rw all

pub overflow_mul-here : goal.overflow_mul-here
overflow_mul-here c = record { fits = omega (arith, box-there c.requires c.loop-k.k c.loop-k-test.true) }

pub overflow_add-here : goal.overflow_add-here
overflow_add-here c = record { fits = omega (arith, box-there c.requires c.loop-k.k c.loop-k-test.true) }

pub overflow_mul-k : goal.overflow_mul-k
overflow_mul-k c = record { fits = omega (arith, box-room c.requires c.loop-k.k c.loop-k-test.true) }

pub overflow_add-at : goal.overflow_add-at
overflow_add-at c = record { fits = omega (arith, box-room c.requires c.loop-k.k c.loop-k-test.true) }

pub overflow_add-here-in-loop-k : goal.overflow_add-here-in-loop-k
overflow_add-here-in-loop-k c = record { fits = omega (arith, box-there c.requires c.loop-k.k c.loop-k-test.true) }

pub slice_bounds-put_box-end : goal.slice_bounds-put_box-end
slice_bounds-put_box-end c = omega (arith, box-there c.requires c.loop-k.k c.loop-k-test.true)
