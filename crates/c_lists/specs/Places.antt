-- The places of the lists' answers.
-- Assumes nothing.
use Rattle.std.specs.Prelude.{ℕ, List, [], ◌∷◌}
use Rattle.lists.specs.declared.TileOffsets.{TileOffsets}
use Rattle.lists.specs.declared.TileSizes.{TileSizes}
use Rattle.lists.specs.declared.Extent.{Extent}

abbrev pub offsets_places : TileOffsets → List ℕ
offsets_places r = r.number ∷ r.place ∷ r.tiles ∷ []

abbrev pub sizes_places : TileSizes → List ℕ
sizes_places r = r.number ∷ r.place ∷ r.sum ∷ []

abbrev pub extent_places : Extent → List ℕ
extent_places r = r.offset ∷ r.extent ∷ []
