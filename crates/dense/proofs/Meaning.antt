-- A query that isn't refused lists exactly the tiles that have a cell in the domain and in the window (`touched-has-cell`,
-- `cell-is-touched`), rising (`touched-rising`); and as many as the spans of the dimensions multiplied (`found-product`).
-- Assumes nothing.
use mathlib.Core.Path.{◌≡◌, refl, ap, ◌∙◌}
use mathlib.Core.Bool.{Bool, true}
use mathlib.Core.List.{List, Memᴰ}
use Prim.Native.Nat.{ℕ, ◌+◌, ◌-◌, ◌*◌, ◌/◌, ◌≤◌, ◌<◌, max}
use native.Mathlib.Omega.{arith}
use lib.ListN.{length, get_or}
use Rattle.answers.proofs.Runs.{Each}
use Rattle.description.specs.declared.Description.{Description}
use Rattle.description.specs.Description.{sides_of}
use Rattle.ranges.specs.declared.Range.{Range}
use Rattle.boxes.specs.declared.Window.{Window}
use Rattle.boxes.specs.Boxes.{range_in}
use Rattle.tree.specs.Walk.{Rising}
use Rattle.dense.specs.declared.Order.{Order}
use Rattle.dense.specs.declared.Order.TheVariants.{RowMajor, ColumnMajor}
use Rattle.dense.specs.Grid.{product, place_of, tile_meets}
use Rattle.dense.specs.Dense.{low_key, high_key, tiles_along, along_meets, dimension_of, tiles_in, meets_in, dense_refusal, touched}
use Rattle.dense.specs.Cells.{place_in, Touched}
use Rattle.dense.specs.Code.Spans.{first_along, span_along, numbers}
use Rattle.dense.proofs.Passing.{passing-rising, passing-has, passing-only}
use Rattle.dense.proofs.Grid.{number-below, number-meets, places-meet, places-number, number_same}
use Rattle.dense.proofs.Rows.{Run, rows, numbers-length}
use Rattle.dense.proofs.Along.{cell-of, place-of, along-run}
use Rattle.dense.proofs.Accepting.{Passed, sound}

-- the order is a change of places, and its own way back
pub dimension-below : (o : Order) (m k : ℕ) → k < m → dimension_of o m k < m
dimension-below RowMajor m k h = h
dimension-below ColumnMajor m k h = omega arith

pub dimension-back : (o : Order) (m k : ℕ) → k < m → dimension_of o m (dimension_of o m k) ≡ k
dimension-back RowMajor m k h = refl
dimension-back ColumnMajor m k h = omega arith

pub dim-within : (o : Order) (m k i : ℕ) → k < m → i ≡ dimension_of o m k → i < m
dim-within o m k i h e = rw e (dimension-below o m k h)

pub dim-below : (o : Order) (m k i : ℕ) → k < m → m ≤ 4 → i ≡ dimension_of o m k → i < 4
dim-below o m k i h l e = omega (arith, dim-within o m k i h e)

-- one dimension
module _ (r : Range) (e : ℕ) (w : Range) (s : Passed r e w) where
  pub run_along : Run (along_meets r e w) (tiles_along r e)
      (first_along (low_key r) (high_key r) e (low_key w) (high_key w)) (span_along (low_key r) (high_key r) e (low_key w) (high_key w))
  unfolding along_meets tiles_along
  run_along = along-run (low_key r) (high_key r) e s.ordered s.whole.some s.whole.exact (low_key w) (high_key w) s.asked

  abbrev cell_at : ℕ → ℕ
  cell_at c = max (low_key r + c * e) (low_key w)

  cell-along : (c : ℕ) → c < tiles_along r e → along_meets r e w c ≡ true
      → ((low_key r ≤ cell_at c) × (cell_at c ≤ high_key r)) × ((low_key w ≤ cell_at c) × (cell_at c ≤ high_key w)) × ((cell_at c - low_key r) / e ≡ c)
  unfolding along_meets tiles_along
  cell-along = cell-of (low_key r) (high_key r) e s.ordered s.whole.some s.whole.exact (low_key w) (high_key w) s.asked

  place-along : (x : ℕ) → (low_key r ≤ x) × (x ≤ high_key r) → (low_key w ≤ x) × (x ≤ high_key w)
      → ((x - low_key r) / e < tiles_along r e) × (along_meets r e w ((x - low_key r) / e) ≡ true)
  unfolding along_meets tiles_along
  place-along = place-of (low_key r) (high_key r) e s.ordered s.whole.some s.whole.exact (low_key w) (high_key w) s.asked

module _ (d : Description) (domain : Window) (extents : List ℕ) (w : Window) (order : Order) where
  abbrev m : ℕ
  m = sides_of d.dimensions

  -- axis k
  abbrev pub dim : ℕ → ℕ
  dim k = dimension_of order m k

  abbrev pub tiles_on : ℕ → ℕ
  tiles_on k = tiles_in d domain extents (dim k)

  abbrev pub meets_on : ℕ → ℕ → Bool
  meets_on k c = meets_in d domain extents w (dim k) c

  abbrev pub first_on : ℕ → ℕ
  first_on k =
      let r = range_in domain.sides (dim k) in
      let v = range_in w.sides (dim k) in
      first_along (low_key r) (high_key r) (get_or extents (dim k) 0) (low_key v) (high_key v)

  abbrev pub span_on : ℕ → ℕ
  span_on k =
      let r = range_in domain.sides (dim k) in
      let v = range_in w.sides (dim k) in
      span_along (low_key r) (high_key r) (get_or extents (dim k) 0) (low_key v) (high_key v)

  pub touched-rising : Rising 0 (product tiles_on 0 m) (touched d domain extents w order)
  unfolding touched
  touched-rising = passing-rising (tile_meets tiles_on meets_on 0 m) 0 (product tiles_on 0 m) (product tiles_on 0 m) (omega arith)

  module _ (passed : (dense_refusal d domain extents w).number ≡ 0) where
    sound-on : (k : ℕ) → k < m → Passed (range_in domain.sides (dim k)) (get_or extents (dim k) 0) (range_in w.sides (dim k))
    sound-on k h = sound d domain extents w passed (dim k) (dimension-below order m k h)

    pub runs_on : Each (λ k. Run (meets_on k) (tiles_on k) (first_on k) (span_on k)) 0 m
    runs_on k a b = run_along (range_in domain.sides (dim k)) (get_or extents (dim k) 0) (range_in w.sides (dim k)) (sound-on k (omega arith))

    pub touched-rows : touched d domain extents w order ≡ numbers tiles_on first_on span_on 0 m 0
    unfolding touched
    touched-rows = rows tiles_on meets_on first_on span_on m runs_on

    pub found-product : length (touched d domain extents w order) ≡ product span_on 0 m
    found-product = ap length touched-rows ∙ numbers-length tiles_on meets_on first_on span_on 0 m 0

    pub cell-is-touched : (t : ℕ) → Touched d domain extents order w t → Memᴰ t (touched d domain extents w order)
    unfolding touched
    cell-is-touched t x =
        let place : ℕ → ℕ = λ k. place_in d domain extents order x.cell (dim k) in
        let at : Each (λ k. (place k < tiles_on k) × (meets_on k (place k) ≡ true)) 0 m =
        λ k a b.
        let h = dimension-below order m k (omega arith) in
        place-along (range_in domain.sides (dim k)) (get_or extents (dim k) 0) (range_in w.sides (dim k)) (sound-on k (omega arith))
        (x.cell (dim k)) (x.in_domain (dim k) h) (x.in_window (dim k) h) in
        let small : t < product tiles_on 0 m = rw (← x.tile) (number-below tiles_on place 0 m (λ k a b. (at k a b).0)) in
        passing-has (tile_meets tiles_on meets_on 0 m) 0 (product tiles_on 0 m) t (omega arith) (omega arith)
        (rw (← x.tile) (number-meets tiles_on meets_on place 0 m at))

    pub touched-has-cell : (t : ℕ) → Memᴰ t (touched d domain extents w order) → Touched d domain extents order w t
    unfolding touched
    touched-has-cell t i =
        let p = passing-only (tile_meets tiles_on meets_on 0 m) 0 (product tiles_on 0 m) t i in
        let small : t < product tiles_on 0 m = omega arith in
        let place : ℕ → ℕ = place_of tiles_on 0 m t in
        let at = places-meet tiles_on meets_on 0 m t small p.2 in
        let cell : ℕ → ℕ = λ j. max (low_key (range_in domain.sides j) + place (dim j) * get_or extents j 0) (low_key (range_in w.sides j)) in
        let here : (j : ℕ) → j < m → ((low_key (range_in domain.sides j) ≤ cell j) × (cell j ≤ high_key (range_in domain.sides j)))
        × ((low_key (range_in w.sides j) ≤ cell j) × (cell j ≤ high_key (range_in w.sides j)))
        × ((cell j - low_key (range_in domain.sides j)) / get_or extents j 0 ≡ place (dim j)) =
        λ j h.
        let k = dimension-below order m j h in
        let a : (place (dim j) < tiles_in d domain extents j) × (meets_in d domain extents w j (place (dim j)) ≡ true) =
        rw (dimension-back order m j h) at (at (dim j) (omega arith) (omega arith)) in
        cell-along (range_in domain.sides j) (get_or extents j 0) (range_in w.sides j) (sound d domain extents w passed j h)
        (place (dim j)) a.0 a.1 in
        record {
          cell = cell;
          in_domain = λ j h. (here j h).0;
          in_window = λ j h. (here j h).1;
          tile =
              number_same tiles_on (λ k. place_in d domain extents order cell (dim k)) place 0 m
              (λ k a b.
              (here (dim k) (dimension-below order m k (omega arith))).2 ∙ ap place (dimension-back order m k (omega arith)))
              ∙ places-number tiles_on 0 m t small;
        }
