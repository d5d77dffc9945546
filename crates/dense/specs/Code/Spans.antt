-- Along one dimension the tiles that meet are those of one run; so the tiles touched are runs of runs.
-- Assumes nothing.
use Rattle.std.specs.Prelude.{ℕ, zero, suc, ◌+◌, ◌-◌, ◌*◌, ◌/◌, ◌≤◌, ◌<◌, min, ◌≡◌, Bool, ◌&&◌, cond, List, [], ◌∷◌, ◌++◌, leb, get_or}
use Rattle.std.proofs.lemmas.List.Edits.{sets}
use Rattle.answers.specs.Runs.{join, filled}
use Rattle.description.specs.Limits.{most_tiles}
use Rattle.boxes.specs.declared.Side.{Side}
use Rattle.boxes.specs.Boxes.{range_in}
use Rattle.dense.specs.declared.Order.{Order}
use Rattle.dense.specs.declared.Axis.{Axis}
use Rattle.dense.specs.Grid.{product}
use Rattle.dense.specs.Dense.{low_key, high_key, split_refusal, dimension_of}

-- every number above the most tiles counts as one more than the most
abbrev pub capped : ℕ → ℕ
capped x = min x (most_tiles + 1)

-- one dimension of the domain from `low` to `high`, its extent, and the window's range, all by keys
module _ (low high e from to : ℕ) where
  abbrev pub meets_any : Bool
  meets_any = leb from high && leb low to

  -- the first place that meets
  unfoldable pub first_along : ℕ
  first_along = cond meets_any ((from - low) / e) 0

  -- how many do
  unfoldable pub span_along : ℕ
  span_along = cond meets_any ((min to high - low) / e - (from - low) / e + 1) 0

  abbrev pub axis_of : Axis
  axis_of = record { tiles = capped ((high - low) / e + 1); first = first_along; span = capped span_along }

-- each of n dimensions splits into whole tiles
abbrev pub Splits : List Side → List ℕ → ℕ → Type 0
Splits sides extents n = (i : ℕ) → i < n → (split_refusal (range_in sides i) (get_or extents i 0) i).number ≡ 0

abbrev pub no_axis : Axis
no_axis = record { tiles = 0; first = 0; span = 0 }

-- dimension i
abbrev pub axis_at : List Side → List ℕ → List Side → ℕ → Axis
axis_at domain extents window i =
    let r = range_in domain i in
    let w = range_in window i in
    axis_of (low_key r) (high_key r) (get_or extents i 0) (low_key w) (high_key w)

-- the axes of n dimensions, from the slowest to the fastest
unfoldable pub axes_of : Order → ℕ → List Side → List ℕ → List Side → List Axis
axes_of order n domain extents window = filled (λ k. axis_at domain extents window (dimension_of order n k)) no_axis n 4

-- What axis k on, m of them, hold of a tile number t of the axes before them: for each of the places that meet, in turn,
-- what the faster axes hold of it.
module _ (tiles first span : ℕ → ℕ) where
  unfoldable pub numbers : ℕ → ℕ → ℕ → List ℕ
  numbers k zero t = t ∷ []
  numbers k (suc m) t = join (numbers (suc k) m) (t * tiles k + first k) (span k)

-- what the fastest axis holds of a tile number of the axes before it
abbrev pub row_of : ℕ → ℕ → ℕ → ℕ → List ℕ
row_of tiles first span t = join (λ s. s ∷ []) (t * tiles + first) span

-- of axes in an array
module _ (axes : List Axis) where
  abbrev pub tiles_at : ℕ → ℕ
  tiles_at k = (get_or axes k no_axis).tiles

  abbrev pub first_at : ℕ → ℕ
  first_at k = (get_or axes k no_axis).first

  abbrev pub span_at : ℕ → ℕ
  span_at k = (get_or axes k no_axis).span

  abbrev pub numbers_of : ℕ → ℕ → ℕ → List ℕ
  numbers_of = numbers tiles_at first_at span_at

-- no span of n axes is above one more than the most
abbrev pub Capped : List Axis → ℕ → Type 0
Capped axes n = (k : ℕ) → k < n → span_at axes k ≤ most_tiles + 1

-- axis k and `more` after it, and a tile number of the axes before: what they hold of it are numbers below the most
pub record Held (axes : List Axis) (k more tile : ℕ) : Type 0 where
  pub few : k + more < 4
  pub below : (tile + 1) * product (tiles_at axes) k (suc more) ≤ most_tiles
  pub within : (j : ℕ) → k ≤ j → j < k + suc more → (first_at axes j + span_at axes j ≤ tiles_at axes j) × (0 < tiles_at axes j)

-- Numbers were stored from a place on, as many as fit, and storing goes on at another place: whatever is stored there
-- next is as if stored behind them. Past the buffer's end it doesn't matter which place that is.
pub record Filled (before : List ℕ) (at : ℕ) (xs after : List ℕ) (next : ℕ) : Type 0 where
  pub is : (ys : List ℕ) → sets after next ys ≡ sets before at (xs ++ ys)
