-- `rows::look_around` meets its contract. The loop's invariant: the place is where dimension i starts, and the ranges of the dimensions before it
-- are finite where nothing else was found.
-- Assumes nothing.
use mathlib.Core.Path.{◌≡◌, sym, ap, ◌∙◌}
use mathlib.Core.Bool.{true≢false}
use Prim.Native.Nat.{◌<◌}
use native.Mathlib.Omega.{arith}
use Rattle.description.specs.Description.{side_start}
use Rattle.description.proofs.Sides.{start_first}
use Rattle.boxes.proofs.Walking.{next_place, place-fits}
use Rattle.rows.proofs.Held.{finite-next, sound-box}
use Rattle.rows.proofs.look_around.Goals as goal
use Rattle.rows.proofs.look_around.Goals.{then-not-is_sound, else-not-is_sound}

pub loop-i-init : goal.loop-i-init
loop-i-init c = (omega arith, sym (start_first c.args.kinds), λ t j l. absurd (omega arith))

pub overflow_add-at : goal.overflow_add-at
overflow_add-at c =
    let near : c.loop-i.i < 4
    = omega (arith, c.loop-i-test, c.sides_of-n.ensures) in
    place-fits _ _ _ c.loop-i.invariant.1 _ c.range_bytes-at.ensures (omega (arith, near))

pub loop-i-preserved : goal.loop-i-preserved
loop-i-preserved c = (
  omega (arith, c.loop-i-test),
  next_place _ _ _ c.loop-i.invariant.1 _ c.range_bytes-at.ensures,
  elim c.if-not-is_sound.branch [
    | then-not-is_sound w ↦ λ h. absurd (true≢false (sym h ∙ w.sound-is))
    | else-not-is_sound w ↦ λ h.
        finite-next _ _ c.loop-i.i c.loop-i.invariant.1 (λ j. (c.type_inv.outer j).fits) (c.loop-i.invariant.2 (sym w.sound-is ∙ h)) _
        c.read.ensures c.is_sound.ensures w.if-not-is_sound.false
  ],
)

pub returns-else-outer-at : goal.returns-else-outer-at
returns-else-outer-at c =
    let a = c.args in
    let last : c.loop-i.i ≡ c.sides_of-n.result = omega (arith, c.loop-i.invariant, c.loop-i-test) in
    let all = last ∙ c.sides_of-n.ensures in
    let whole = c.loop-i.invariant.1 ∙ ap (side_start a.kinds) all in
    (whole, λ h. sound-box a.kinds a.outer.now _ (omega (arith, whole, c.if-outer-at)) (λ j k. c.loop-i.invariant.2 h j (omega (arith, all))))
