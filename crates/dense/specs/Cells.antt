-- What it means that a window touches a tile: some cell of it lies in the domain and in the window. A cell is a key for
-- each dimension.
-- Assumes nothing.
use Rattle.std.specs.Prelude.{ℕ, ◌-◌, ◌/◌, ◌≤◌, ◌<◌, ◌≡◌, get_or}
use mathlib.Core.List.{List, Memᴰ}
use Rattle.description.specs.declared.Description.{Description}
use Rattle.description.specs.Limits.{most_tiles}
use Rattle.description.specs.Description.{sides_of}
use Rattle.boxes.specs.declared.Window.{Window}
use Rattle.boxes.specs.Boxes.{range_in}
use Rattle.tree.specs.Walk.{Rising}
use Rattle.dense.specs.declared.Order.{Order}
use Rattle.dense.specs.Grid.{number_of, place_of}
use Rattle.dense.specs.Dense.{low_key, high_key, dimension_of, tiles_in}

-- a cell lies in the first m dimensions of a box
abbrev pub Within : Window → ℕ → (ℕ → ℕ) → Type 0
Within box m cell =
    (i : ℕ) → i < m → (low_key (range_in box.sides i) ≤ cell i) × (cell i ≤ high_key (range_in box.sides i))

module _ (d : Description) (domain : Window) (extents : List ℕ) (order : Order) where
  -- the number of tiles along axis k
  abbrev pub tiles_by : ℕ → ℕ
  tiles_by k = tiles_in d domain extents (dimension_of order (sides_of d.dimensions) k)

  -- the number of the tile at a place along each dimension, and the place along dimension i of a tile
  abbrev pub number_by : (ℕ → ℕ) → ℕ
  number_by place =
      let m = sides_of d.dimensions in
      number_of tiles_by (λ k. place (dimension_of order m k)) 0 m

  abbrev pub place_by : ℕ → ℕ → ℕ
  place_by t i =
      let m = sides_of d.dimensions in
      place_of tiles_by 0 m t (dimension_of order m i)

  -- along dimension i, the place of the tile that has a cell
  abbrev pub place_in : (ℕ → ℕ) → ℕ → ℕ
  place_in cell i = (cell i - low_key (range_in domain.sides i)) / get_or extents i 0

  -- the number of the tile that has a cell
  abbrev pub tile_of : (ℕ → ℕ) → ℕ
  tile_of cell = number_by (place_in cell)

  -- tile t has a cell that lies in the domain and in the window
  pub record Touched (w : Window) (t : ℕ) : Type 0 where
    pub cell : ℕ → ℕ
    pub in_domain : Within domain (sides_of d.dimensions) cell
    pub in_window : Within w (sides_of d.dimensions) cell
    pub tile : tile_of cell ≡ t

  -- a list has exactly the tiles that a window touches, rising
  pub record Exactly (w : Window) (xs : List ℕ) : Type 0 where
    pub rising : Rising 0 most_tiles xs
    pub only : (t : ℕ) → Memᴰ t xs → Touched w t
    pub every : (t : ℕ) → Touched w t → Memᴰ t xs

-- a tile's number in another order: that of the tile at the same places
unfoldable pub renumbered : Description → Window → List ℕ → Order → Order → ℕ → ℕ
renumbered d domain extents order other t = number_by d domain extents other (place_by d domain extents order t)
