-- A grid of tiles: which number has each, and which are touched? Axis 0 is the slowest, and each next one faster. Axis k
-- has `tiles k` places, and place c along it meets the window, or does not.
-- Assumes nothing.
use Rattle.std.specs.Prelude.{ℕ, zero, suc, ◌+◌, ◌*◌, ◌/◌, ◌%◌, Bool, true, ◌&&◌, cond, List, eqb}
use Rattle.answers.specs.Runs.{over}
use Rattle.tree.specs.Flat.{passing}

abbrev pub product : (ℕ → ℕ) → ℕ → ℕ → ℕ
product = over ◌*◌ 1

module _ (tiles : ℕ → ℕ) where
  -- The number of a tile by its place along each axis, from axis k on, m of them: a step along an axis counts as many
  -- tiles as the faster axes have.
  unfoldable pub number_of : (ℕ → ℕ) → ℕ → ℕ → ℕ
  number_of place k zero = 0
  number_of place k (suc m) = place k * product tiles (suc k) m + number_of place (suc k) m

  -- the place along axis j of tile t of the axes from k on
  unfoldable pub place_of : ℕ → ℕ → ℕ → ℕ → ℕ
  place_of k zero t j = 0
  place_of k (suc m) t j =
      let faster = product tiles (suc k) m in
      cond (eqb j k) (t / faster) (place_of (suc k) m (t % faster) j)

  module _ (meets : ℕ → ℕ → Bool) where
    -- a tile meets the window where its place along each axis does
    unfoldable pub tile_meets : ℕ → ℕ → ℕ → Bool
    tile_meets k zero t = true
    tile_meets k (suc m) t =
        let faster = product tiles (suc k) m in
        meets k (t / faster) && tile_meets (suc k) m (t % faster)

    -- the rising numbers of the tiles that do, in a grid of m axes
    abbrev pub touched_of : ℕ → List ℕ
    touched_of m = passing (tile_meets 0 m) 0 (product tiles 0 m)
