-- The places of the answer array.
-- Assumes nothing.
use Rattle.std.specs.Prelude.{ℕ, cond, List, [], ◌∷◌, eqb, get_or}
use Rattle.query.specs.declared.BoxTest.{BoxTest}
use Rattle.query.specs.declared.Tested.{Tested}

unfoldable pub box_test_places : BoxTest → List ℕ
box_test_places r = r.number ∷ r.place ∷ cond r.tested.meets 1 0 ∷ r.tested.read ∷ []

-- what the array says of the test: place 2 is 1 where the box meets, place 3 is the number of dimensions read
abbrev pub tested_at : List ℕ → Tested
tested_at places = record { meets = eqb (get_or places 2 0) 1; read = get_or places 3 0 }
