-- `leaves::first_fault` meets its contract. The invariant: the place is that of leaf k, and what the leaves from k on
-- say is what all of them say, since the ones before said nothing. Assumes nothing.
use Rattle.std.proofs.Common.{ℕ, ◌≡◌, ◌+◌, ◌-◌, ◌*◌, ◌≤◌, ◌<◌, List, length, sym, ◌∙◌, arith, rules}
use native.Mathlib.Nat.{mul-le-mul_right}
use Rattle.answers.specs.Refusals.{none}
use Rattle.answers.specs.Checks.{otherwise}
use Rattle.answers.specs.Told.{told}
use Rattle.answers.proofs.Runs.{over-start}
use Rattle.answers.proofs.Told.{moves, exits, passes-left, stops-left, done-left}
use Rattle.description.specs.declared.Description.{Description}
use Rattle.description.specs.Description.{sides_of, bytes_of_box}
use Rattle.boxes.proofs.Moving.{ranges-told}
use Rattle.leaves.specs.Code.Sound.{leaves_refusal}
use Rattle.leaves.proofs.first_fault.Invariants.{leaf_at}
use Rattle.leaves.proofs.first_fault.Goals as goal

pub loop-k-init : goal.loop-k-init
unfolding leaves_refusal
loop-k-init c = (omega arith, over-start otherwise none _ _)

-- leaf k is there
there : (d : Description) (n : ℕ) (leaves : List ℕ) → length leaves ≡ n * bytes_of_box d
    → (k at b : ℕ) → k < n → at ≡ k * bytes_of_box d → b ≡ bytes_of_box d → at + b ≤ length leaves
there d n leaves whole k at b h place own = omega (arith, whole, place, own, mul-le-mul_right (bytes_of_box d) h)

pub returns-in_err-map_err : goal.returns-in_err-map_err
unfolding bytes_of_box
returns-in_err-map_err c =
    let x = c.args in
    let d = x.description in
    let l = c.loop-k in
    let b = c.box_bytes-box_bytes.ensures in
    let inside = there d x.tiles x.leaves.now c.requires l.k l.at c.box_bytes-box_bytes.result c.loop-k-test.true l.invariant.0 b in
    let size : l.at + c.box_bytes-box_bytes.result - l.at ≡ bytes_of_box d = omega (arith, b) in
    let says : told c.map_err.result ≡ leaf_at d x.leaves.now l.k =
    rw (← l.invariant.0)
    (ranges-told d.kinds (sides_of d.dimensions) _ l.at (rw size at c.check_ranges.ensures)
    (moves _ _ l.at _ c.map_err.ensures.cases (λ e y p. search rules)) (omega (arith, inside, b))) in
    exits _ _ c.from_residual.ensures.1
    (stops-left (leaf_at d x.leaves.now) l.k _ c.loop-k-test.true says c.in_err-map_err.was ∙ sym l.invariant.1)

pub loop-k-preserved : goal.loop-k-preserved
unfolding bytes_of_box
loop-k-preserved c =
    let x = c.args in
    let d = x.description in
    let l = c.loop-k in
    let b = c.box_bytes-box_bytes.ensures in
    let inside = there d x.tiles x.leaves.now c.requires l.k l.at c.box_bytes-box_bytes.result c.loop-k-test.true l.invariant.0 b in
    let size : l.at + c.box_bytes-box_bytes.result - l.at ≡ bytes_of_box d = omega (arith, b) in
    let says : told c.map_err.result ≡ leaf_at d x.leaves.now l.k =
    rw (← l.invariant.0)
    (ranges-told d.kinds (sides_of d.dimensions) _ l.at (rw size at c.check_ranges.ensures)
    (moves _ _ l.at _ c.map_err.ensures.cases (λ e y p. search rules)) (omega (arith, inside, b))) in (
      omega (arith, l.invariant.0, b),
      l.invariant.1 ∙ passes-left (leaf_at d x.leaves.now) l.k _ c.loop-k-test.true says c.in_ok-map_err.was,
    )

pub returns : goal.returns
returns c =
    let l = c.loop-k in
    done-left _ _ _ c.loop-k-test.false ∙ sym l.invariant.1
