-- The boxes that are written, level by level from the leaves up: each has B bytes (`box-sized`), sound ranges where the leaves have (`box-sound`), and holds
-- its children (`box-nested`).
-- Assumes nothing.
use mathlib.Core.Path.{◌≡◌, ap}
use mathlib.Core.Bool.{true}
use mathlib.Core.List.{List}
use Prim.Native.Nat.{ℕ, zero, suc, ◌+◌, ◌-◌, ◌*◌, ◌/◌, ◌≤◌, ◌<◌}
use native.Mathlib.Omega.{arith}
use native.Mathlib.Nat.{mul-le-mul_right, div-mul-le_self, lt-div-mul-add, div-lt_iff_lt-mul}
use lib.ListN.{length, take, drop, length-take, length-drop}
use Rattle.answers.proofs.Runs.{Each}
use Rattle.description.specs.declared.Description.{Description}
use Rattle.answers.specs.declared.Refusal.{Refusal}
use Rattle.description.specs.declared.Kind.{Kind}
use Rattle.description.specs.Kinds.{end_bytes, key}
use Rattle.description.specs.Description.{kind_at, side_start, sides_of, bytes_of_box}
use Rattle.boxes.specs.Boxes.{side_at, ranges_refusal, box_inside}
use Rattle.tree.specs.Shape.{boxes, children}
use Rattle.tree.proofs.Counts.{up-enough, first-child}
use Rattle.footer.proofs.Domain.{ranges-anywhere}
use Rattle.written.specs.Body.{written_box}
use Rattle.boxes.proofs.Least.{lowest-first, highest-first, low_box, high_box, low-in, high-in, low-bytes, high-bytes, around-length, around-least, around-numbers, around-holds, around-sound}
use Rattle.boxes.proofs.Holding.{Numbers}

-- a box that is there has a child, and what holds of a level holds of its row of children
some-child : (f n j k : ℕ) → 0 < f → k < boxes f n (suc j) → 0 < children f n j k
unfolding children
some-child f n j k hf there = omega (arith, first-child f n j k hf there)

module _ (f n : ℕ) (hf : 0 < f) (P : ℕ → Type 0) (j k : ℕ) (there : k < boxes f n (suc j)) (each : (i : ℕ) → i < boxes f n j → P i) where
  row_has : Each P (k * f) (suc (children f n j k - 1))
  unfolding children
  row_has i from to = each i (omega (arith, first-child f n j k hf there))

-- every box but the root is in the row of its parent
pub parent-there : (f n j k : ℕ) → 0 < f → k < boxes f n j → k / f < boxes f n (suc j)
unfolding boxes
parent-there f n j k hf h = (div-lt_iff_lt-mul {k = f} hf).1 (omega (arith, up-enough f (boxes f n j) hf))

in_row : (f n j k : ℕ) → 0 < f → k < boxes f n j → (k / f * f ≤ k) × (k < k / f * f + children f n j (k / f))
unfolding children
in_row f n j k hf h = (div-mul-le_self k f, omega (arith, lt-div-mul-add {a = k} {b = f} hf, div-mul-le_self k f))

-- the bytes of an end: those of the first in a row of `count` boxes from box k on whose end has that key
pub record FirstWith (kind : Kind) (end : ℕ → ℕ) (bytes : ℕ → List ℕ) (taken : List ℕ) (k count : ℕ) : Type 0 where
  pub child : ℕ
  pub from : k ≤ child
  pub to : child < k + count
  pub its : taken ≡ bytes child
  pub first : (c : ℕ) → k ≤ c → c < child → key kind (end c) ≡ key kind (end child) → ⊥

module _ (d : Description) (n f : ℕ) (leaves : List ℕ) (hf : 0 < f) (whole : length leaves ≡ n * bytes_of_box d) where
  abbrev box : ℕ → ℕ → List ℕ
  box = written_box d n f leaves

  abbrev m : ℕ
  m = sides_of d.dimensions

  pub box-sized : (j k : ℕ) → k < boxes f n j → length (box j k) ≡ bytes_of_box d
  unfolding written_box bytes_of_box boxes
  box-sized zero k h = simp (length-take, length-drop) (omega (arith, whole, mul-le-mul_right (bytes_of_box d) h))
  box-sized (suc j) k h =
      around-length d.kinds m (box j) (k * f) (children f n j k - 1)
      (row_has f n hf (λ c. length (box j c) ≡ bytes_of_box d) j k h (box-sized j))

  row_sized : (j k : ℕ) → k < boxes f n (suc j) → Each (λ c. length (box j c) ≡ side_start d.kinds m) (k * f) (suc (children f n j k - 1))
  unfolding bytes_of_box
  row_sized j k h = row_has f n hf (λ c. length (box j c) ≡ bytes_of_box d) j k h (box-sized j)

  -- a parent lies inside every box that holds all of its children
  pub parent-least : (j k : ℕ) → k < boxes f n (suc j) → (outer : List ℕ)
      → ((c : ℕ) → k * f ≤ c → c < k * f + children f n j k → box_inside d.kinds m (box j c) outer ≡ true)
      → box_inside d.kinds m (box (suc j) k) outer ≡ true
  unfolding written_box
  parent-least j k h outer holds =
      around-least d.kinds m (box j) (k * f) (children f n j k - 1) (row_sized j k h) outer
      (λ c from to. holds c from (omega (arith, some-child f n j k hf h)))

  -- a parent's ends have the bytes of the first child that has such an end
  module _ (j k : ℕ) (h : k < boxes f n (suc j)) (i : ℕ) (l : i < m) where
    abbrev kind : Kind
    kind = kind_at d.kinds i

    abbrev part : ℕ → List ℕ → List ℕ
    part at bytes = take (end_bytes kind) (drop at bytes)

    abbrev low : ℕ
    low = side_start d.kinds i

    abbrev high : ℕ
    high = low + end_bytes kind

    pub parent-low : FirstWith kind (λ c. (side_at d.kinds (box j c) i).low) (λ c. part low (box j c)) (part low (box (suc j) k)) (k * f) (children f n j k)
    unfolding written_box
    parent-low =
        let sized = row_sized j k h in
        let more = children f n j k - 1 in
        let there = low-in d.kinds m (box j) (k * f) more sized i in
        record {
          child = low_box d.kinds m (box j) (k * f) more sized i;
          from = there.0;
          to = omega (arith, there.1, some-child f n j k hf h);
          its = low-bytes d.kinds m (box j) (k * f) more sized i l;
          first = λ c a b e. omega (arith, e, lowest-first kind (λ c. (side_at d.kinds (box j c) i).low) (k * f) more c a b);
        }

    pub parent-high : FirstWith kind (λ c. (side_at d.kinds (box j c) i).high) (λ c. part high (box j c)) (part high (box (suc j) k)) (k * f) (children f n j k)
    unfolding written_box
    parent-high =
        let sized = row_sized j k h in
        let more = children f n j k - 1 in
        let there = high-in d.kinds m (box j) (k * f) more sized i in
        record {
          child = high_box d.kinds m (box j) (k * f) more sized i;
          from = there.0;
          to = omega (arith, there.1, some-child f n j k hf h);
          its = high-bytes d.kinds m (box j) (k * f) more sized i l;
          first = λ c a b e. omega (arith, e, highest-first kind (λ c. (side_at d.kinds (box j c) i).high) (k * f) more c a b);
        }

  -- the leaves' ranges have no NaN: then no box's have
  module _ (leaf-numbers : (k : ℕ) → k < n → Numbers d.kinds m (box 0 k)) where
    pub box-numbers : (j k : ℕ) → k < boxes f n j → Numbers d.kinds m (box j k)
    unfolding written_box boxes
    box-numbers zero k h = leaf-numbers k h
    box-numbers (suc j) k h =
        around-numbers d.kinds m (box j) (k * f) (children f n j k - 1) (row_sized j k h)
        (row_has f n hf (λ c. Numbers d.kinds m (box j c)) j k h (box-numbers j))

    -- every child lies inside its parent
    pub child-inside : (j k : ℕ) → k < boxes f n (suc j) → (c : ℕ) → k * f ≤ c → c < k * f + children f n j k
        → box_inside d.kinds m (box j c) (box (suc j) k) ≡ true
    unfolding written_box
    child-inside j k h c from to =
        around-holds d.kinds m (box j) (k * f) (children f n j k - 1) (row_sized j k h)
        (row_has f n hf (λ e. Numbers d.kinds m (box j e)) j k h (box-numbers j)) c from (omega (arith, some-child f n j k hf h))

    pub box-nested : (j k : ℕ) → k < boxes f n j → box_inside d.kinds m (box j k) (box (suc j) (k / f)) ≡ true
    box-nested j k h =
        let row = in_row f n j k hf h in
        child-inside j (k / f) (parent-there f n j k hf h) k row.0 row.1

  -- the leaves' ranges are sound: then every box's are
  pub box-sound : ((k : ℕ) → k < n → (ranges_refusal d.kinds m (box 0 k) (k * bytes_of_box d)).number ≡ 0)
      → (j k : ℕ) → k < boxes f n j → (ranges_refusal d.kinds m (box j k) 0).number ≡ 0
  unfolding written_box boxes
  box-sound leaf zero k h = ap (λ (r : Refusal). r.number) (ranges-anywhere d.kinds m (box 0 k) (k * bytes_of_box d) 0 (leaf k h))
  box-sound leaf (suc j) k h =
      ap (λ (r : Refusal). r.number)
      (around-sound d.kinds m (box j) (k * f) (children f n j k - 1) (row_sized j k h) (λ c. 0)
      (row_has f n hf (λ c. (ranges_refusal d.kinds m (box j c) 0).number ≡ 0) j k h (box-sound leaf j)) 0)
