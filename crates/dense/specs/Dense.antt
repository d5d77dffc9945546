-- A window on a dense array: the checks in their order, the tiles along each dimension, and the answer.
-- Assumes nothing.
use Rattle.std.specs.Prelude.{ℕ, Result, Ok, Err, ◌+◌, ◌-◌, ◌*◌, ◌/◌, ◌%◌, Bool, not, ◌&&◌, ◌||◌, cond, List, [], ◌∷◌, leb, ltb, eqb, length, get_or}
use Rattle.answers.specs.Refusals as refusals
use Rattle.answers.specs.Checks.{check, first, each}
use Rattle.answers.specs.Laid.{laid}
use Rattle.answers.specs.declared.Refusal.{Refusal}
use Rattle.answers.specs.declared.Refused.{Refused}
use Rattle.answers.specs.Told.{said}
use Rattle.description.specs.declared.Description.{Description}
use Rattle.description.specs.Limits.{most_tiles}
use Rattle.description.specs.Kinds.{key, is_float}
use Rattle.description.specs.Description.{description_refusal, sides_of}
use Rattle.ranges.specs.declared.Range.{Range}
use Rattle.ranges.specs.Ranges.{kind_of, ends_of}
use Rattle.boxes.specs.declared.Window.{Window}
use Rattle.boxes.specs.Boxes.{range_in}
use Rattle.boxes.specs.Windows.{window_refusal}
use Rattle.dense.specs.declared.Order.{Order}
use Rattle.dense.specs.declared.Order.TheVariants.{RowMajor, ColumnMajor}
use Rattle.dense.specs.declared.DenseAnswer.{DenseAnswer}
use Rattle.dense.specs.Grid.{product, touched_of}

-- the keys of a range's ends; of an integer kind, one key a cell
unfoldable pub low_key : Range → ℕ
low_key r = key (kind_of r) (ends_of r).low

unfoldable pub high_key : Range → ℕ
high_key r = key (kind_of r) (ends_of r).high

-- the cells from the minimum to the maximum
abbrev pub cells : Range → ℕ
cells r = high_key r - low_key r + 1

-- one dimension of the domain, and its extent
module _ (r : Range) (e : ℕ) where
  -- 29: a float kind, an extent of 0, or a domain that doesn't split into whole tiles
  unfoldable pub split_refusal : ℕ → Refusal
  split_refusal place = check (is_float (kind_of r) || (eqb e 0 || not (eqb (cells r % e) 0))) refusals.grid place

  unfoldable pub tiles_along : ℕ
  tiles_along = cells r / e

  -- the cells of the tile at place c go from the first key to the last
  abbrev pub first_cell : ℕ → ℕ
  first_cell c = low_key r + c * e

  abbrev pub last_cell : ℕ → ℕ
  last_cell c = first_cell c + (e - 1)

  -- they meet a window's range
  unfoldable pub along_meets : Range → ℕ → Bool
  along_meets w c = leb (first_cell c) (high_key w) && leb (low_key w) (last_cell c)

-- what code tells: the number found, or what the error says
unfoldable pub told_found : Result ℕ Refused → DenseAnswer
told_found (Ok found) = record { number = 0; place = 0; found = found }
told_found (Err e) = record { number = (said e).number; place = (said e).place; found = 0 }

-- Which of m dimensions is axis k, counted from the slowest? The order of the tiles decides this and nothing else.
abbrev pub dimension_of : Order → ℕ → ℕ → ℕ
dimension_of RowMajor m k = k
dimension_of ColumnMajor m k = m - 1 - k

module _ (d : Description) (domain : Window) (extents : List ℕ) where
  -- the tiles along dimension i
  abbrev pub tiles_in : ℕ → ℕ
  tiles_in i = tiles_along (range_in domain.sides i) (get_or extents i 0)

  -- 1 and 28; the domain as a query's box; then 29 per dimension; 10 at 0 for too many tiles
  unfoldable pub grid_refusal : Refusal
  grid_refusal = first (
      description_refusal d
      ∷ window_refusal d domain
      ∷ each (λ i. split_refusal (range_in domain.sides i) (get_or extents i 0) i) 0 (sides_of d.dimensions)
      ∷ check (ltb most_tiles (product tiles_in 0 (sides_of d.dimensions))) refusals.tiles 0
      ∷ []
      )

  module _ (w : Window) where
    -- then the query likewise
    unfoldable pub dense_refusal : Refusal
    dense_refusal = first (grid_refusal ∷ window_refusal d w ∷ [])

    -- the tiles at place c along dimension i meet the window there
    abbrev pub meets_in : ℕ → ℕ → Bool
    meets_in i c = along_meets (range_in domain.sides i) (get_or extents i 0) (range_in w.sides i) c

    module _ (order : Order) where
      -- the rising tile numbers whose cells meet the window
      unfoldable pub touched : List ℕ
      touched =
          let m = sides_of d.dimensions in
          touched_of (λ k. tiles_in (dimension_of order m k)) (λ k c. meets_in (dimension_of order m k) c) m

      -- the number found; a refusal has 0 in every other number
      unfoldable pub dense_answer : DenseAnswer
      dense_answer =
          cond (eqb dense_refusal.number 0)
          (record { number = 0; place = 0; found = length touched })
          (record { number = dense_refusal.number; place = dense_refusal.place; found = 0 })

      -- the first tiles touched, as many as fit, and the rest untouched; all of it where the query is refused
      unfoldable pub dense_buffer : List ℕ → List ℕ
      dense_buffer out = cond (eqb dense_refusal.number 0) (laid touched out) out
