-- The places of the answers.
-- Assumes nothing.
use Rattle.std.specs.Prelude.{ℕ, List, [], ◌∷◌}
use Rattle.tile_metadata.specs.declared.TileValues.{TileValues}
use Rattle.tile_metadata.specs.declared.TwoBodies.{TwoBodies}

abbrev pub sums_places : TileValues → List ℕ
sums_places r = r.number ∷ r.place ∷ r.tiles ∷ []

abbrev pub counts_places : TwoBodies → List ℕ
counts_places r = r.number ∷ r.place ∷ r.which ∷ r.tiles ∷ []
