-- A description that comes as numbers.
-- Assumes nothing.
use Rattle.std.specs.Prelude.{ℕ, Bool, ◌&&◌, cond, List, [], ◌∷◌, length, get_or}
use Rattle.answers.specs.Runs.{join}
use Rattle.description.specs.declared.Dimension.{Dimension}
use Rattle.description.specs.declared.Description.{Description}
use Rattle.description.specs.Kinds.{kind_of_datatype, is_datatype}

-- number i of a list is some kind's; past the list's end it counts as 0
abbrev pub is_kind_at : List ℕ → ℕ → Bool
is_kind_at numbers i = is_datatype (get_or numbers i 0)

-- each of the first four
unfoldable pub all_kinds : List ℕ → Bool
all_kinds numbers = is_kind_at numbers 0 && (is_kind_at numbers 1 && (is_kind_at numbers 2 && is_kind_at numbers 3))

-- the dimensions of the first four
unfoldable pub numbered_dimensions : List ℕ → List Dimension
numbered_dimensions numbers = join (λ i. record { kind = kind_of_datatype (get_or numbers i 0) } ∷ []) 0 4

-- D is how many numbers there are. Where one of the first four is no kind's, D is 0, which is outside the limits.
unfoldable pub describe : List ℕ → ℕ → ℕ → Description
describe kinds fields capacity = record {
  dimensions = cond (all_kinds kinds) (length kinds) 0;
  kinds = numbered_dimensions kinds;
  fields = fields;
  capacity = capacity;
}
