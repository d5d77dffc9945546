-- The places of the answer array.
-- Assumes nothing.
use Rattle.std.specs.Prelude.{ℕ, List, [], ◌∷◌}
use Rattle.commits.specs.declared.Committed.{Committed}

unfoldable pub committed_places : Committed → List ℕ
committed_places r = r.number ∷ r.place ∷ r.found ∷ []
