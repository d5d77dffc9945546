-- What is told of boxes that have come, row by row, is what their level says of them. Within a row the boxes have one
-- parent (`piece-said`); a run of boxes whose parents stand in the work buffer is told of as opening tells of it
-- (`run-said`), and so is the root (`root_said`).
-- Assumes nothing.
use mathlib.Core.Path.{◌≡◌, refl, ◌∙◌}
use mathlib.Core.Bool.{false}
use mathlib.Core.List.{List}
use Prim.Native.Nat.{ℕ, suc, ◌+◌, ◌-◌, ◌*◌, ◌/◌, ◌≤◌, ◌<◌}
use native.Mathlib.Nat.{zero-add, mul-le-mul_right, div-lt_iff_lt-mul}
use native.Mathlib.Omega.{arith}
use lib.Dec.{eqb}
use lib.ListN.{length, take, drop}
use borrow.Author.Tests.{eq-eqb, ne_eqb}
use Rattle.answers.specs.Refusals.{none, outside_parent, outside_domain}
use Rattle.answers.specs.Runs.{over}
use Rattle.answers.specs.Checks.{otherwise, each, moved}
use Rattle.answers.proofs.Runs.{over-ext, over-map}
use Rattle.answers.proofs.Moved.{moved-otherwise}
use Rattle.description.specs.declared.Description.{Description}
use Rattle.description.specs.Description.{sides_of, bytes_of_box}
use Rattle.rows.specs.Code.Row.{row_refusal}
use Rattle.tree.specs.Shape.{up, boxes, height, level_start}
use Rattle.tree.proofs.Counts.{up-enough}
use Rattle.tree.proofs.Places.{start-root}
use Rattle.rtree.specs.Body.{fanout_of}
use Rattle.rtree.specs.Opening.{root_refusal, inner_refusal}
use Rattle.opening.specs.Code.Stored.{run_refusal, Run}
use Rattle.opening.proofs.Rows.{row-said, box-moved, each_from}
use Rattle.parts_state.specs.Code.Rest.{box_check}
use Rattle.parts.specs.Code.Runs.{child_check}
use Rattle.parts.specs.Code.Steps.{Reads}
use Rattle.parts.proofs.Lists.{alike, read-part, read-there}

-- a piece of a row: boxes i, .. , `more` of them, that have one parent
module _ (d : Description) (f parents index : ℕ) (bytes work : List ℕ) {b i more : ℕ} (r : Run d bytes b 0 i more) where
  pub piece-said : (q : ℕ) {outer : List ℕ} → outer ≡ take b (drop (parents + q * b) work)
      → ((x : ℕ) → i ≤ x → x < i + more → (index + x) / f ≡ q)
      → moved (i * b) (row_refusal d.kinds (sides_of d.dimensions) (take (i * b + more * b - i * b) (drop (i * b) bytes)) outer outside_parent)
      ≡ each (child_check d f parents index bytes work) i more
  unfolding run_refusal
  piece-said q {outer} e one =
      let said = row-said r outer outside_parent (omega arith) in
      let here : 0 + i * b ≡ i * b = zero-add (i * b) in
      rw here at said
      ∙ over-ext otherwise none _ (child_check d f parents index bytes work) i more
      (λ x low high. rw (zero-add, e, one x low high, r.own))

module _ (d : Description) (n : ℕ) (domain body : List ℕ) where
  abbrev f : ℕ
  f = fanout_of body

  abbrev b : ℕ
  b = bytes_of_box d

  parent-there : (j x : ℕ) → 0 < f → x < boxes f n j → x / f < boxes f n (suc j)
  unfolding boxes
  parent-there j x hf h = (div-lt_iff_lt-mul {k = f} {x = x} {y = up f (boxes f n j)} hf).1 (omega (arith, up-enough f (boxes f n j) hf))

  -- boxes k, k + 1, .. of the level at distance j, m of them
  module _ (j k m parents : ℕ) (bytes work : List ℕ) (hf : 0 < f) (below : j < height f n) (in-level : k + m ≤ boxes f n j)
      (r : Reads body (level_start f n b j + k * b) bytes) (size : length bytes ≡ m * b)
      (above : take (boxes f n (suc j) * b) (drop parents work) ≡ take (boxes f n (suc j) * b) (drop (level_start f n b (suc j)) body)) where
    abbrev at : ℕ
    at = level_start f n b j + k * b

    box-said : (i : ℕ) → i < m → moved at (child_check d f parents k bytes work i) ≡ box_check d n domain body j (k + i)
    unfolding inner_refusal
    box-said i h =
        let q = (k + i) / f in
        let place : at + i * b ≡ level_start f n b j + (k + i) * b = omega arith in
        let own : take b (drop (i * b) bytes) ≡ take b (drop (level_start f n b j + (k + i) * b) body) =
        rw (← place) (read-part body at bytes r (i * b) b (omega (arith, mul-le-mul_right b h, size))) in
        let there : q < boxes f n (suc j) = parent-there j (k + i) hf (omega arith) in
        let outer = alike work body parents (level_start f n b (suc j)) (boxes f n (suc j) * b) (q * b) b above
        (omega (arith, mul-le-mul_right b there)) in
        let other : eqb j (height f n) ≡ false = ne_eqb j (height f n) (λ e. omega arith) in
        rw (other, box-moved d.kinds (sides_of d.dimensions) (take b (drop (parents + q * b) work)) outside_parent (take b (drop (i * b) bytes)) at (i * b) (omega arith), own, outer, place)

    pub run-said : moved at (each (child_check d f parents k bytes work) 0 m) ≡ each (box_check d n domain body j) k m
    run-said =
        over-map otherwise none otherwise none (moved at) refl (moved-otherwise at) (child_check d f parents k bytes work) 0 m
        ∙ each_from _ _ 0 k m (λ i h. rw (zero-add i) (box-said i h))

  -- the root
  module _ (bytes : List ℕ) (r : Reads body 16 bytes) (size : length bytes ≡ b) (some : 0 < b) where
    root-run : Run d body b 16 0 1
    root-run = record {
      own = refl;
      some = some;
      there = omega (arith, read-there body 16 bytes r (omega (arith, size, some)), size);
    }

    pub root_said :
        moved 16 (row_refusal d.kinds (sides_of d.dimensions) bytes domain outside_domain)
        ≡ each (box_check d n domain body (height f n)) 0 1
    unfolding run_refusal root_refusal over
    root_said =
        let here : 16 + 0 * b ≡ 16 = omega arith in
        let len : 16 + 1 * b - 16 ≡ length bytes = omega (arith, size) in
        let said = row-said root-run domain outside_domain (omega arith) in
        rw (here, len, r) at said
        ∙ rw (eq-eqb (height f n) (height f n) refl, start-root f n b, here)
