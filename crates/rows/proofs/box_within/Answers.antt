-- `rows::box_within` meets its contract. The loop's invariant: the place is where dimension i starts, and the box is without a fault and inside where the
-- dimensions from i on are, since the ones before were.
-- Assumes nothing.
use mathlib.Core.Path.{◌≡◌, sym, ap, ◌∙◌}
use mathlib.Core.Bool.{true, ◌&&◌}
use Prim.Native.Nat.{◌<◌}
use native.Mathlib.Omega.{arith}
use Rattle.answers.proofs.Runs.{over-start}
use Rattle.description.proofs.Sides.{start_first, start_up}
use Rattle.rows.specs.Code.Row.{sound_within, sound_inside}
use Rattle.boxes.proofs.Boxes.{none_left, missed, passed}
use Rattle.boxes.proofs.Walking.{next_place, place-fits}
use Rattle.rows.proofs.box_within.Goals as goal

pub loop-i-init : goal.loop-i-init
loop-i-init c =
    let a = c.args in
    (omega arith, sym (start_first a.kinds), over-start ◌&&◌ true (sound_inside a.kinds a.bytes.now a.outer.now) a.n)

pub returns-then-n-i : goal.returns-then-n-i
returns-then-n-i c =
    none_left _ _ _ c.loop-i.invariant.2 c.if-n-i.true

pub side_within-requires : goal.side_within-requires
side_within-requires c =
    let more : c.loop-i.i < c.args.n = omega (arith, c.if-n-i) in (
      omega (arith, c.loop-i.invariant.1, start_up c.args.kinds c.loop-i.i c.args.n more, c.requires.1),
      λ h. rw c.loop-i.invariant.1 (c.requires.2 h c.loop-i.i more),
    )

pub returns-then-not-side_within : goal.returns-then-not-side_within
returns-then-not-side_within c =
    let a = c.args in
    let told : c.side_within.result ≡ sound_inside a.kinds a.bytes.now a.outer.now c.loop-i.i
    = c.side_within.ensures ∙ ap (sound_within _ _ _) c.loop-i.invariant.1 in
    missed _ _ _ c.loop-i.invariant.2 c.if-n-i.false told c.if-not-side_within.true

pub overflow_add-at : goal.overflow_add-at
overflow_add-at c =
    place-fits _ _ _ c.loop-i.invariant.1 _ c.range_bytes-at.ensures (omega (arith, c.loop-i-test))

pub loop-i-preserved : goal.loop-i-preserved
loop-i-preserved c =
    let a = c.args in
    let told : c.side_within.result ≡ sound_inside a.kinds a.bytes.now a.outer.now c.loop-i.i
    = c.side_within.ensures ∙ ap (sound_within _ _ _) c.loop-i.invariant.1 in (
      omega (arith, c.if-n-i),
      next_place _ _ _ c.loop-i.invariant.1 _ c.range_bytes-at.ensures,
      passed _ _ _ c.loop-i.invariant.2 c.if-n-i.false told c.if-not-side_within.false,
    )

pub returns : goal.returns
returns c =
    none_left _ _ _ c.loop-i.invariant.2 (omega (arith, c.loop-i-test, c.requires.0))
