-- An answer as an array of numbers, as C takes it.
-- Assumes nothing.
use Rattle.std.specs.Prelude.{ℕ, List, [], ◌∷◌}
use Rattle.written.specs.declared.Written.{Written}

abbrev pub written_places : Written → List ℕ
written_places r = r.number ∷ r.place ∷ r.length ∷ []
