-- The places of the answer array.
-- Assumes nothing.
use Rattle.std.specs.Prelude.{ℕ, List, [], ◌∷◌, get_or}
use Rattle.query.specs.declared.Answer.{Answer}

abbrev pub answer_places : Answer → List ℕ
answer_places r = r.number ∷ r.place ∷ r.found ∷ r.looked ∷ []

-- the answer that an array has
abbrev pub answer_in : List ℕ → Answer
answer_in places =
    record { number = get_or places 0 0; place = get_or places 1 0; found = get_or places 2 0; looked = get_or places 3 0 }
