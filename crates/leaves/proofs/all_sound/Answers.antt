-- `leaves::all_sound` meets its contract. The invariant: the place is where dimension i starts, and in the dimensions
-- before it no range has a fault. Assumes nothing.
use mathlib.Core.Path.{sym}
use native.Mathlib.Omega.{arith}
use borrow.Author.Count.{below_more}
use Rattle.description.specs.Description.{bytes_of_box}
use Rattle.description.proofs.Sides.{start_first, start_up}
use Rattle.boxes.proofs.Walking.{next_place, place-fits}
use Rattle.leaves.proofs.Sound.{leaves-sound}
use Rattle.leaves.proofs.all_sound.Goals as goal

pub loop-i-init : goal.loop-i-init
loop-i-init c = (omega arith, sym (start_first c.args.description.kinds), λ j h. absurd (omega arith))

-- dimension i ends in the box
pub side_sound-requires-clause-kind_bound : goal.side_sound-requires-clause-kind_bound
unfolding bytes_of_box
side_sound-requires-clause-kind_bound c =
    let d = c.args.description in
    let up = rw c.sides_of-n.ensures at (start_up d.kinds c.loop-i.i c.sides_of-n.result c.loop-i-test.true) in
    omega (arith, c.loop-i.invariant.1, c.box_bytes-box_bytes.ensures, up)

pub overflow_add-side : goal.overflow_add-side
overflow_add-side c = place-fits _ _ _ c.loop-i.invariant.1 _ c.range_bytes-side.ensures (omega (arith, c.loop-i-test, c.sides_of-n.ensures))

pub loop-i-preserved : goal.loop-i-preserved
loop-i-preserved c =
    let l = c.loop-i in (
      omega (arith, c.loop-i-test),
      next_place _ _ _ l.invariant.1 _ c.range_bytes-side.ensures,
      below_more _ _ l.invariant.2 (rw l.invariant.1 at (c.side_sound.ensures c.if-not-side_sound.false)),
    )

pub returns : goal.returns
returns c e =
    let l = c.loop-i in
    let x = c.args in
    leaves-sound x.description x.tiles x.leaves.now c.requires
    (λ i h. rw c.box_bytes-box_bytes.ensures at (l.invariant.2 i (omega (arith, c.loop-i-test, c.sides_of-n.ensures))))
