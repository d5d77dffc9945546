-- The places of opening's answer.
-- Assumes nothing.
use Rattle.std.specs.Prelude.{ℕ, List, [], ◌∷◌}
use Rattle.rtree.specs.declared.Opened.{Opened}

abbrev pub opened_places : Opened → List ℕ
opened_places r = r.number ∷ r.place ∷ r.which ∷ r.tiles ∷ r.fanout ∷ r.levels ∷ []
