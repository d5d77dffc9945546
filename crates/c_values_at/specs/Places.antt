-- The value of a kind that comes as its Datatype number, and the places of a var value's answer.
-- Assumes nothing.
use Rattle.std.specs.Prelude.{ℕ, cond, List, [], ◌∷◌}
use Rattle.description.specs.Kinds.{kind_of_datatype, is_datatype}
use Rattle.lists.specs.declared.Extent.{Extent}
use Rattle.tile_values.specs.Values.{pattern_of}

-- 0 of a number that is no kind's
unfoldable pub numbered_pattern : ℕ → ℕ → List ℕ → ℕ → ℕ
numbered_pattern number n s i = cond (is_datatype number) (pattern_of (kind_of_datatype number) n s i) 0

abbrev pub part_places : Extent → List ℕ
part_places r = r.offset ∷ r.extent ∷ []
