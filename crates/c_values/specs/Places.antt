-- The places of the answers.
-- Assumes nothing.
use Rattle.std.specs.Prelude.{ℕ, List, [], ◌∷◌}
use Rattle.lists.specs.declared.Extent.{Extent}
use Rattle.tile_metadata.specs.declared.TileValues.{TileValues}
use Rattle.tile_metadata.specs.declared.TwoBodies.{TwoBodies}
use Rattle.tile_values.specs.declared.Bounds.{Bounds}

abbrev pub values_places : TileValues → List ℕ
values_places r = r.number ∷ r.place ∷ r.tiles ∷ []

abbrev pub ranges_places : TwoBodies → List ℕ
ranges_places r = r.number ∷ r.place ∷ r.which ∷ r.tiles ∷ []

abbrev pub range_places : Bounds → List ℕ
range_places r = r.min ∷ r.max ∷ []

abbrev pub part_places : Extent → List ℕ
part_places r = r.offset ∷ r.extent ∷ []
