-- What does the check of a body's shape come to, and what has a body that passed it? The code's checks go by the
-- numbers of the shape, which are the tree's only where n and the fanout are within the limits; where they are not, an
-- earlier check has refused (`shaped`). A body that passed has a fanout within the limits, so that the tree has a shape
-- at all, and the number of levels and of bytes that this shape says (`passed`).
-- Assumes nothing.
use mathlib.Core.Path.{◌≡◌, refl, ap, sym, ◌∙◌}
use mathlib.Core.Bool.{Bool, true, false, cond}
use mathlib.Core.List.{List, [], ◌∷◌}
use Prim.Native.Nat.{ℕ, ◌-◌, ◌*◌, ◌≤◌, ◌<◌}
use native.Mathlib.Omega.{arith}
use lib.Dec.{eqb}
use lib.ListN.{length, get_or}
use borrow.Author.Tests.{eqb-true, not-false}
use Rattle.answers.specs.Refusals.{none}
use Rattle.answers.specs.declared.Refusal.{Refusal}
use Rattle.answers.specs.Checks.{otherwise, first}
use Rattle.answers.proofs.Runs.{over-ext}
use Rattle.answers.proofs.Checks.{regroup, both-clear, clear, check-clear, last, each_none}
use Rattle.description.specs.declared.Description.{Description}
use Rattle.description.specs.Description.{sides_of, bytes_of_box}
use Rattle.description.specs.Limits.{least_tiles, most_tiles, least_fanout, most_fanout, Sizes}
use Rattle.description.proofs.Limits.{within, not-outside}
use Rattle.description.proofs.Sides.{start-most}
use Rattle.tree.specs.declared.Shape.{Shape}
use Rattle.tree.specs.Shape.{height, levels, level_start, body_bytes, most_box_bytes, outside_limits, shape_of}
use Rattle.tree.proofs.Limits.{sizes, boxes-small}
use Rattle.tree.proofs.Table.{shape-outside, shape-levels, shape-boxes, shape-bytes, start-at, count_at}
use Rattle.rtree.specs.Body.{fanout_of, levels_of, front_refusal, size_refusal, shape_refusal}
use Rattle.rtree.specs.Body.{count_refusal, stored_count, counts_refusal}
use Rattle.rtree.specs.Code.Shaped.{tiles_refusal, shaped_refusal, table_refusal}

-- whatever the kinds are
pub box-bytes-most : (d : Description) → bytes_of_box d ≤ most_box_bytes
unfolding bytes_of_box
box-bytes-most d = omega (arith, start-most d.kinds (sides_of d.dimensions))

-- whatever the numbers are, a shape is small, and before a level's first box there is room for its count
pub record Small (s : Shape) : Type 0 where
  pub boxes-few : s.boxes ≤ 25 * most_tiles
  pub counted : (j : ℕ) → j < s.levels → 8 ≤ get_or s.table (2 * j) 0

pub small : (f n b : ℕ) → Small (shape_of f n b)
unfolding level_start levels
small f n b = go (outside_limits f n b) refl
  where
    go : (t : Bool) → outside_limits f n b ≡ t → Small (shape_of f n b)
    go true e = rw (← (shape-outside f n b e)) (record {
      boxes-few = omega arith;
      counted = λ j h. absurd (omega arith);
    })
    go false e =
        let z = sizes f n b e in
        record {
          boxes-few = omega (arith, shape-boxes z.0 b z.1, boxes-small z.0);
          counted = λ j h. omega (arith, start-at z.0 b z.1 j (omega (arith, shape-levels z.0 b z.1)));
        }

-- what stands after a check matters only where that check passes
pub behind : (r s t : Refusal) → (r.number ≡ 0 → s ≡ t) → otherwise r s ≡ otherwise r t
behind r s t h = go (eqb r.number 0) refl
  where
    go : (u : Bool) → eqb r.number 0 ≡ u → cond u s r ≡ cond u t r
    go true e = h (eqb-true r.number 0 e)
    go false e = refl

fanout-within : (size f : ℕ) → (front_refusal size f).number ≡ 0 → (least_fanout ≤ f) × (f ≤ most_fanout)
unfolding front_refusal
fanout-within size f h =
    within least_fanout most_fanout f (check-clear _ _ _ (omega arith) (clear _ _ (clear _ _ h).1).0)

tiles-within : (n : ℕ) → (tiles_refusal n).number ≡ 0 → (least_tiles ≤ n) × (n ≤ most_tiles)
tiles-within n h = within least_tiles most_tiles n (check-clear _ _ _ (omega arith) h)

-- the code's checks are those of the rules
module _ (d : Description) (n : ℕ) (body : List ℕ) where
  abbrev f : ℕ
  f = fanout_of body

  abbrev b : ℕ
  b = bytes_of_box d

  abbrev s : Shape
  s = shape_of f n b

  abbrev front : Refusal
  front = otherwise (tiles_refusal n) (front_refusal (length body) f)

  abbrev size : ℕ → ℕ → Refusal
  size l whole = size_refusal l whole (length body) (levels_of body)

  counts : Sizes n f → table_refusal body s.table (levels f n) ≡ counts_refusal f n b (stored_count n b body)
  unfolding table_refusal counts_refusal levels
  counts z =
      over-ext otherwise none _ _ 0 (levels f n) (λ i low high.
      let j : levels f n - 1 - i ≡ height f n - i = omega arith in
      rw (
        j,
        start-at z b (box-bytes-most d) (height f n - i) (omega arith),
        count_at z b (box-bytes-most d) (height f n - i) (omega arith),
      ))

  counts-last : (g : ℕ → ℕ) → first (counts_refusal f n b g ∷ []) ≡ counts_refusal f n b g
  unfolding counts_refusal
  counts-last g =
      let level : ℕ → Refusal = λ l. count_refusal f n b (g (height f n - l)) (height f n - l) in
      last (counts_refusal f n b g) (each_none level 0 (levels f n))

  rest : front.number ≡ 0
      → otherwise (size s.levels s.bytes) (table_refusal body s.table s.levels)
      ≡ first (size (levels f n) (body_bytes f n b) ∷ counts_refusal f n b (stored_count n b body) ∷ [])
  unfolding first
  rest h =
      let p = both-clear (tiles_refusal n) (front_refusal (length body) f) h in
      let t = tiles-within n p.0 in
      let w = fanout-within (length body) f p.1 in
      let z : Sizes n f = record { some = t.0; most = t.1; least = w.0; widest = w.1 } in
      rw (shape-bytes z b (box-bytes-most d), shape-levels z b (box-bytes-most d), counts z)
      (ap (otherwise (size (levels f n) (body_bytes f n b))) (sym (counts-last (stored_count n b body))))

  pub shaped : {r : Refusal}
      → r ≡ otherwise front (otherwise (size s.levels s.bytes) (table_refusal body s.table s.levels))
      → r ≡ shaped_refusal d n body
  unfolding shape_refusal first
  shaped e =
      e
      ∙ behind front _ _ rest
      ∙ regroup (tiles_refusal n) (front_refusal (length body) f) _

-- what passed
pub record Passed (n b : ℕ) (body : List ℕ) : Type 0 where
  pub sized : Sizes n (fanout_of body)
  pub leveled : levels_of body ≡ levels (fanout_of body) n
  pub whole : length body ≡ body_bytes (fanout_of body) n b

pub passed : (n b : ℕ) (body : List ℕ) → least_tiles ≤ n → n ≤ most_tiles → (shape_refusal n b body).number ≡ 0
    → Passed n b body
unfolding shape_refusal size_refusal
passed n b body some most h =
    let front = clear _ _ h in
    let size = clear _ _ front.1 in
    let level = clear _ _ size.0 in
    let bytes = clear _ _ level.1 in
    let f = fanout-within (length body) (fanout_of body) front.0 in
    record {
      sized = record { some = some; most = most; least = f.0; widest = f.1 };
      leveled = eqb-true _ _ (not-false _ (check-clear _ _ _ (omega arith) level.0));
      whole = eqb-true _ _ (not-false _ (check-clear _ _ _ (omega arith) bytes.0));
    }

-- with the check of n before it
module _ (d : Description) (n : ℕ) (body : List ℕ) where
  pub shaped-passed : (shaped_refusal d n body).number ≡ 0 → Passed n (bytes_of_box d) body
  shaped-passed h =
      let p = both-clear (tiles_refusal n) (shape_refusal n (bytes_of_box d) body) h in
      let t = tiles-within n p.0 in
      passed n (bytes_of_box d) body t.0 t.1 p.1

  pub shaped-within : least_tiles ≤ n → n ≤ most_tiles → shaped_refusal d n body ≡ shape_refusal n (bytes_of_box d) body
  shaped-within some most = rw (not-outside least_tiles most_tiles n some most)
