-- How do the boxes of a body come one after the other? All of them, level by level (`from_first`); a run of a level's
-- boxes, and then those after it (`from-run`); past a level's last box, the level below it (`from_next`); and after the
-- last leaf none (`from_end`). A level starts after the one above it has ended (`start-after`), and so in the work buffer
-- (`own_below`, `own-fits`).
-- Assumes nothing.
use mathlib.Core.Path.{◌≡◌, refl, ap, sym}
use mathlib.Core.Bool.{false}
use mathlib.Core.List.{List}
use Prim.Native.Nat.{ℕ, zero, suc, ◌+◌, ◌-◌, ◌*◌, ◌≤◌, ◌<◌}
use native.Mathlib.Omega.{arith}
use lib.Dec.{eqb}
use borrow.Author.Tests.{eq-eqb, ne_eqb}
use Rattle.answers.specs.Refusals.{none}
use Rattle.answers.specs.Runs.{over}
use Rattle.answers.specs.Checks.{otherwise, each}
use Rattle.answers.specs.declared.Refusal.{Refusal}
use Rattle.answers.proofs.Runs.{over-ext}
use Rattle.answers.proofs.Checks.{regroup, each-add}
use Rattle.description.specs.declared.Description.{Description}
use Rattle.tree.specs.Shape.{boxes, boxes_above, height, level_start}
use Rattle.tree.proofs.Root.{height-one}
use Rattle.tree.proofs.Places.{start-down}
use Rattle.rtree.specs.Body.{fanout_of}
use Rattle.rtree.specs.Opening.{root_refusal, inner_refusal, level_refusal, boxes_refusal}
use Rattle.parts_state.specs.Parts.{inner_bytes}
use Rattle.parts_state.specs.Code.Rest.{box_check, below, boxes_from}

module _ (d : Description) (n : ℕ) (domain body : List ℕ) where
  abbrev f : ℕ
  f = fanout_of body

  abbrev check : ℕ → ℕ → Refusal
  check = box_check d n domain body

  abbrev from : ℕ → ℕ → Refusal
  from = boxes_from d n domain body

  -- the levels below j, as opening goes through them
  levels-below : (j : ℕ) → each (λ l. level_refusal d n body (j - suc l)) 0 j ≡ below d n domain body j
  unfolding below over
  levels-below zero = refl
  levels-below (suc j) =
      let z : suc j - 1 ≡ j = omega arith in
      rw (z, ← (levels-below j))
      (ap (otherwise (level_refusal d n body j)) (shift j 0))
    where
      shift : (m k : ℕ)
          → each (λ l. level_refusal d n body (suc j - suc l)) (suc k) m ≡ each (λ l. level_refusal d n body (j - suc l)) k m
      shift zero k = refl
      shift (suc m) k =
          let z : suc j - suc (suc k) ≡ j - suc k = omega arith in
          rw (z, shift m (suc k))

  pub from_first : 1 < f → 0 < n → boxes_refusal d n body domain ≡ from (height f n) 0
  unfolding boxes_refusal over
  from_first hf hn =
      let one : boxes f n (height f n) - 0 ≡ 1 = omega (arith, height-one f n hf hn) in
      rw (one, eq-eqb (height f n) (height f n) refl, levels-below (height f n))
      (sym (regroup (root_refusal d n body domain) none (below d n domain body (height f n))))

  pub from-run : (j k m : ℕ) → k + m ≤ boxes f n j → from j k ≡ otherwise (each (check j) k m) (from j (k + m))
  from-run j k m h =
      let z : boxes f n j - k ≡ m + (boxes f n j - (k + m)) = omega arith in
      rw (z, each-add (check j) k m (boxes f n j - (k + m)))
      (regroup (each (check j) k m) (each (check j) (k + m) (boxes f n j - (k + m))) (below d n domain body j))

  pub from_next : (j : ℕ) → suc j ≤ height f n → from (suc j) (boxes f n (suc j)) ≡ from j 0
  unfolding below over level_refusal
  from_next j h =
      let z : boxes f n (suc j) - boxes f n (suc j) ≡ 0 = omega arith in
      let y : boxes f n j - 0 ≡ boxes f n j = omega arith in
      let other : eqb j (height f n) ≡ false = ne_eqb j (height f n) (λ e. omega arith) in
      let same : each (check j) 0 (boxes f n j) ≡ each (inner_refusal d n body j) 0 (boxes f n j) =
      over-ext otherwise none (check j) (inner_refusal d n body j) 0 (boxes f n j) (λ i low high. rw other) in
      rw (z, y, same)

  pub from_end : (k : ℕ) → boxes f n 0 ≤ k → from 0 k ≡ none
  unfolding below over
  from_end k h =
      let z : boxes f n 0 - k ≡ 0 = omega arith in
      rw z

module _ (f n b : ℕ) where
  -- a level starts after the levels above it
  pub start-after : (i m : ℕ) → i + suc m ≤ height f n
      → level_start f n b (i + suc m) + boxes f n (i + suc m) * b + 8 ≤ level_start f n b i
  start-after i zero h =
      let z : i + 1 ≡ suc i = omega arith in
      rw z (omega (arith, start-down f n b i (omega arith)))
  start-after i (suc m) h =
      let z : i + suc (suc m) ≡ suc (i + suc m) = omega arith in
      rw z (omega (arith, start-down f n b (i + suc m) (omega arith), start-after i m (omega arith)))

  -- the place of a level in the work buffer
  pub own_below : (j : ℕ) → suc j ≤ height f n
      → b * boxes_above f n j ≡ b * boxes_above f n (suc j) + boxes f n (suc j) * b
  unfolding boxes_above over
  own_below j h =
      let p : height f n - j ≡ suc (height f n - suc j) = omega arith in
      rw p (omega arith)

  pub own_root : boxes_above f n (height f n) ≡ 0
  unfolding boxes_above over
  own_root =
      let p : height f n - height f n ≡ 0 = omega arith in
      rw p

  -- an inner level has its place in the room that the inner boxes take
  pub own-fits : (j : ℕ) → suc j ≤ height f n
      → b * boxes_above f n (suc j) + boxes f n (suc j) * b ≤ inner_bytes f n b
  own-fits zero h = omega (arith, own_below 0 h)
  own-fits (suc j) h = omega (arith, own_below (suc j) h, own-fits j (omega arith))
