-- `boxes::check_ranges` meets its contract. Assumes nothing.
use Rattle.std.proofs.Common.{◌≡◌, ℕ, sym, ap, ◌∙◌, arith}
use Rattle.answers.specs.Refusals.{none}
use Rattle.answers.specs.Checks.{otherwise}
use Rattle.answers.specs.Told.{told}
use Rattle.answers.proofs.Runs.{over-start}
use Rattle.answers.proofs.Told.{passes-left, stops-left, done-left, exits}
use Rattle.boxes.specs.Boxes.{ranges_refusal}
use Rattle.description.proofs.Sides.{start_first}
use Rattle.boxes.proofs.Walking.{told_at, next_place, place-fits, told_here}
use Rattle.boxes.proofs.check_ranges.Goals as goal

pub loop-i-init : goal.loop-i-init
unfolding ranges_refusal
loop-i-init c =
    let a = c.args in
    (sym (start_first a.kinds), over-start otherwise none (told_at a.kinds a.bytes.now 0) c.sides_of-n.result)

pub returns-in_err-stored : goal.returns-in_err-stored
returns-in_err-stored c =
    let a = c.args in
    let here : told c.stored.result ≡ told_at a.kinds a.bytes.now 0 c.loop-i.i
    = told_here _ _ _ c.loop-i.invariant.0 a.bytes.now (λ j. (c.type_inv.bytes j).fits)
    _ c.read-range.ensures _ _ c.of.ensures c.stored.ensures in
    exits _ _ c.from_residual.ensures.1
    (stops-left (told_at a.kinds a.bytes.now 0) _ _ c.loop-i-test.true here c.in_err-stored.was
    ∙ sym c.loop-i.invariant.1
    ∙ ap (λ (n : ℕ). ranges_refusal a.kinds n a.bytes.now 0) c.sides_of-n.ensures)

pub overflow_add-at : goal.overflow_add-at
overflow_add-at c =
    place-fits _ _ _ c.loop-i.invariant.0 _ c.range_bytes-at.ensures (omega (arith, c.sides_of-n.ensures))

pub loop-i-preserved : goal.loop-i-preserved
loop-i-preserved c =
    let a = c.args in
    let here : told c.stored.result ≡ told_at a.kinds a.bytes.now 0 c.loop-i.i
    = told_here _ _ _ c.loop-i.invariant.0 a.bytes.now (λ j. (c.type_inv.bytes j).fits)
    _ c.read-range.ensures _ _ c.of.ensures c.stored.ensures in (
      next_place _ _ _ c.loop-i.invariant.0 _ c.range_bytes-at.ensures,
      c.loop-i.invariant.1 ∙ passes-left (told_at a.kinds a.bytes.now 0) _ _ c.loop-i-test.true here c.in_ok-stored.was,
    )

pub returns : goal.returns
returns c =
    let a = c.args in
    done-left (told_at a.kinds a.bytes.now 0) _ _ c.loop-i-test.false
    ∙ sym c.loop-i.invariant.1
    ∙ ap (λ (n : ℕ). ranges_refusal a.kinds n a.bytes.now 0) c.sides_of-n.ensures
