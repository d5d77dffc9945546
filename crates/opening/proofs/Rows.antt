-- How do rows of boxes stand in a body? What is told of a row by itself is told of it in the body, moved by the row's
-- start (`row-said`), and a fault lies before the row's end (`row-place`). The rows of children of a level's boxes, one
-- after the other, are the level below it: each box once, against its own parent (`rows-level`).
-- Assumes nothing.
use mathlib.Core.Path.{◌≡◌, refl, ap, sym, ◌∙◌}
use mathlib.Core.Bool.{Bool, true, false, not}
use mathlib.Core.List.{List}
use Prim.Native.Nat.{ℕ, zero, suc, ◌+◌, ◌-◌, ◌*◌, ◌/◌, ◌≤◌, ◌<◌, min}
use native.Mathlib.Nat.{add-zero, zero-add, add-suc, suc-add}
use native.Mathlib.Nat.{mul-le-mul_right, mul-le-mul_left, div-eq_of_lt-le, div-mul-le_self}
use native.Mathlib.Decide.{dec_le}
use native.Mathlib.Omega.{arith}
use lib.ListN.{length, take, drop, length-take, length-drop}
use lib.Seq.{drop-drop}
use Rattle.answers.specs.Refusals.{none, outside_parent}
use Rattle.answers.specs.Runs.{over}
use Rattle.answers.specs.Checks.{check, otherwise, each, moved}
use Rattle.answers.specs.declared.Refusal.{Refusal}
use Rattle.answers.proofs.Runs.{over-ext, over-map}
use Rattle.answers.proofs.Joined.{part-of-part}
use Rattle.answers.proofs.Moved.{moved-place, moved-otherwise, moved-check, moved_twice}
use Rattle.answers.proofs.Checks.{either, each-has, each-add}
use Rattle.description.specs.declared.Dimension.{Dimension}
use Rattle.description.specs.declared.Description.{Description}
use Rattle.description.specs.Description.{side_start, sides_of, bytes_of_box}
use Rattle.boxes.specs.Boxes.{ranges_refusal, box_inside, box_refusal}
use Rattle.rows.specs.Code.Row.{row_box, row_refusal}
use Rattle.boxes.proofs.Moving.{ranges-moved, fault-before}
use Rattle.tree.specs.Shape.{up, boxes, level_start}
use Rattle.tree.proofs.Counts.{up-tight, up-enough}
use Rattle.rtree.specs.Body.{fanout_of}
use Rattle.rtree.specs.Opening.{inner_refusal, level_refusal}
use Rattle.opening.specs.Code.Stored.{run_refusal, children_of, rows_refusal, Run, Rows}

-- a box that starts elsewhere
module _ (kinds : List Dimension) (m : ℕ) (outer : List ℕ) (number : ℕ) where
  pub box-moved : (bytes : List ℕ) (a s : ℕ) → 0 < number
      → moved a (box_refusal kinds m bytes outer number s) ≡ box_refusal kinds m bytes outer number (a + s)
  unfolding box_refusal
  box-moved bytes a s some =
      let out = not (box_inside kinds m bytes outer) in
      let ranges : moved a (ranges_refusal kinds m bytes s) ≡ ranges_refusal kinds m bytes (a + s) =
      ap (moved a) (ranges-moved kinds m bytes s)
      ∙ sym (ranges-moved kinds m bytes (a + s) ∙ moved_twice a s (ranges_refusal kinds m bytes 0)) in
      moved-otherwise a (ranges_refusal kinds m bytes s) (check out number s)
      ∙ rw (ranges, moved-check a out number s some)

  -- a fault is placed before the box's end
  check-place : (t : Bool) (s most : ℕ) → (check t number s).place ≤ s + most
  check-place true s most = omega arith
  check-place false s most = omega arith

  box-place : (bytes : List ℕ) (s : ℕ) → (box_refusal kinds m bytes outer number s).place ≤ s + side_start kinds m
  unfolding box_refusal
  box-place bytes s =
      let most = side_start kinds m in
      either (λ r. r.place ≤ s + most) (ranges_refusal kinds m bytes s) _
      (rw (ranges-moved kinds m bytes s)
      (moved-place s most (ranges_refusal kinds m bytes 0) (fault-before kinds m bytes)))
      (check-place (not (box_inside kinds m bytes outer)) s most)

  pub row_before : (row : List ℕ) → (row_refusal kinds m row outer number).place ≤ length row
  unfolding row_refusal
  row_before row =
      let b = side_start kinds m in
      each-has (λ r. r.place ≤ length row) (row_box kinds m row outer number) 0 (length row / b) (omega arith)
      (λ i low high.
      let box = box-place (take b (drop (i * b) row)) (i * b) in
      omega (arith, box, mul-le-mul_right b high, div-mul-le_self (length row) b))

-- two runs that say the same, one of them further on
pub each_from : (g h : ℕ → Refusal) (a b m : ℕ) → ((i : ℕ) → i < m → g (a + i) ≡ h (b + i)) → each g a m ≡ each h b m
unfolding over
each_from g h a b zero p = refl
each_from g h a b (suc m) p =
    let here : g a ≡ h b = simp add-zero at (p 0 (omega arith)) in
    let rest : (i : ℕ) → i < m → g (suc a + i) ≡ h (suc b + i) =
    λ i l. rw (suc-add a i, suc-add b i, ← (add-suc a i), ← (add-suc b i)) (p (suc i) (omega arith)) in
    rw (here, each_from g h (suc a) (suc b) m rest)

-- a row in the body, of the boxes from `start` on the one from box `first` on
module _ (kinds : List Dimension) (m : ℕ) (outer : List ℕ) (number : ℕ) (body : List ℕ) (start first count : ℕ) where
  -- the bytes of a box; where the row starts; its bytes
  abbrev b : ℕ
  b = side_start kinds m

  abbrev from : ℕ
  from = start + first * b

  abbrev row : List ℕ
  row = take (count * b) (drop from body)

  module _ (some_bytes : 0 < b) (some : 0 < number) (there : from + count * b ≤ length body) where
    row_count : length row / b ≡ count
    row_count =
        let size : length row ≡ count * b = simp (length-take, length-drop) (omega arith) in
        rw size (div-eq_of_lt-le {k = count} b {m = count * b} (omega arith) (omega arith))

    box-said : (i : ℕ) → i < count
        → moved from (row_box kinds m row outer number i)
        ≡ box_refusal kinds m (take b (drop (start + (first + i) * b) body)) outer number (start + (first + i) * b)
    box-said i l =
        let at : start + (first + i) * b ≡ from + i * b = omega arith in
        rw (
          box-moved kinds m outer number (take b (drop (i * b) row)) from (i * b) some,
          part-of-part (drop from body) (i * b) b (count * b) (omega (arith, mul-le-mul_right b l)),
          drop-drop (i * b) from body,
          at,
        )

    run-said : moved from (row_refusal kinds m row outer number)
        ≡ each (λ i. box_refusal kinds m (take b (drop (start + i * b) body)) outer number (start + i * b)) first count
    unfolding row_refusal
    run-said =
        let here = row_box kinds m row outer number in
        rw row_count
        (over-map otherwise none otherwise none (moved from) refl (moved-otherwise from) here 0 count
        ∙ each_from _ _ 0 first count (λ i l. rw (zero-add i) (box-said i l)))

-- as code lends it
module _ {d : Description} {body : List ℕ} {b start first count : ℕ} (r : Run d body b start first count)
    (outer : List ℕ) (number : ℕ) where
  abbrev at : ℕ
  at = start + first * b

  abbrev lent : List ℕ
  lent = take (at + count * b - at) (drop at body)

  pub row-place : (row_refusal d.kinds (sides_of d.dimensions) lent outer number).place ≤ count * b
  row-place =
      let size : length lent ≤ count * b = simp length-take (omega arith) in
      omega (arith, row_before d.kinds (sides_of d.dimensions) outer number lent)

  pub row-said : 0 < number
      → moved at (row_refusal d.kinds (sides_of d.dimensions) lent outer number)
      ≡ run_refusal d body outer number start first count
  unfolding run_refusal bytes_of_box
  row-said some =
      let size : at + count * b - at ≡ count * b = omega arith in
      let there : at + count * b ≤ length body = omega (arith, r.there) in
      rw (size, r.own)
      (run-said d.kinds (sides_of d.dimensions) outer number body start first count
      (rw r.own at r.some) some (rw r.own at there))

-- row k of a level, and its parent, as code takes them
module _ {d : Description} {body : List ℕ} {b f start parents next count : ℕ}
    (r : Rows d body b f start parents next count) (k : ℕ) (there : k < parents) where
  pub parent-there : start + k * b + b ≤ length body
  parent-there = omega (arith, r.above.there, mul-le-mul_right b there)

  pub parent-fits : k < length body
  parent-fits = omega (arith, parent-there, mul-le-mul_left (suc k) r.above.some)

  first-there : k * f < count
  first-there =
      omega (arith, up-tight f count r.least, mul-le-mul_right f there, ap (λ (x : ℕ). x * f) r.rounded)

  pub first_fits : k * f ≤ length body
  first_fits = omega (arith, first-there, r.below.there, mul-le-mul_left count r.below.some)

  module _ {len : ℕ} (row : len ≡ min f (count - k * f)) where
    pub children-there : Run d body b next (k * f) len
    children-there =
        let inside : k * f + len ≤ 0 + count = omega (arith, first-there) in
        record {
          own = r.below.own;
          some = r.below.some;
          there = omega (arith, r.below.there, mul-le-mul_right b inside);
        }

    pub children-said : {told : Refusal}
        → (let at = start + k * b in
        told ≡ run_refusal d body (take (at + b - at) (drop at body)) outside_parent next (k * f) len)
        → told ≡ children_of d body f start next count k
    children-said h =
        let size : start + k * b + b - (start + k * b) ≡ b = omega arith in
        h ∙ rw (size, row, r.above.own)

-- c boxes in rows of f: the rows from row k on, m of them
each_rows : (g : ℕ → Refusal) (f c k m : ℕ)
    → each (λ i. each g (i * f) (min f (c - i * f))) k m ≡ each g (k * f) (min (m * f) (c - k * f))
unfolding over
each_rows g f c k zero =
    let p : min (0 * f) (c - k * f) ≡ 0 = omega arith in
    rw p
each_rows g f c k (suc m) =
    let len = min f (c - k * f) in
    let rest = min (m * f) (c - suc k * f) in
    let all : min (suc m * f) (c - k * f) ≡ len + rest = omega arith in
    rw (each_rows g f c (suc k) m, all, each-add g (k * f) len rest) (go (dec_le f (c - k * f)))
  where
    go : Dec (f ≤ c - k * f)
        → otherwise (each g (k * f) (min f (c - k * f))) (each g (suc k * f) (min (m * f) (c - suc k * f)))
        ≡ otherwise (each g (k * f) (min f (c - k * f)))
        (each g (k * f + min f (c - k * f)) (min (m * f) (c - suc k * f)))
    go (yes full) =
        let next : k * f + min f (c - k * f) ≡ suc k * f = omega arith in
        rw next
    go (no short) =
        let none : min (m * f) (c - suc k * f) ≡ 0 = omega arith in
        rw none

module _ (d : Description) (n : ℕ) (body : List ℕ) (j : ℕ) (least : 0 < fanout_of body) where
  abbrev f : ℕ
  f = fanout_of body

  abbrev c : ℕ
  c = boxes f n j

  pub rows-level :
      rows_refusal d body f (level_start f n (bytes_of_box d) (suc j)) (boxes f n (suc j)) (level_start f n (bytes_of_box d) j) c
      ≡ level_refusal d n body j
  unfolding rows_refusal run_refusal level_refusal inner_refusal boxes
  rows-level =
      let parents = up f c in
      let all : min (parents * f) (c - 0 * f) ≡ c = omega (arith, up-enough f c least) in
      let first : 0 * f ≡ 0 = omega arith in
      over-ext otherwise none _ _ 0 parents (λ k low high.
      over-ext otherwise none _ (inner_refusal d n body j) (k * f) (min f (c - k * f)) (λ i from to.
      let parent : i / f ≡ k = div-eq_of_lt-le {k = k} f {m = i} from (omega arith) in
      rw parent))
      ∙ each_rows (inner_refusal d n body j) f c 0 parents
      ∙ rw (all, first)
