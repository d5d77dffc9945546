-- A window, whose ranges are needed again and again, is carried as its kinds and plain numbers: the patterns of its
-- ends, the minimum of dimension i at twice its place and the maximum after it. Nothing here is promised to a user of
-- the library. Assumes nothing.
use Rattle.std.specs.Prelude.{ℕ, ◌+◌, ◌*◌, ◌^◌, ◌<◌, cond, List, [], ◌∷◌, ltb, get_or}
use Rattle.answers.specs.Runs.{join}
use Rattle.description.specs.declared.Kind.{Kind}
use Rattle.description.specs.Kinds.{end_bytes}
use Rattle.ranges.specs.Ranges.{Ends, ends_of, fitted}
use Rattle.boxes.specs.declared.Side.{Side}
use Rattle.boxes.specs.Boxes.{range_in}

-- the side of a kind whose ends are carried for dimension i, in the lowest bytes of their numbers
abbrev pub carried_side : Kind → List ℕ → ℕ → Ends
carried_side k ends i = record {
  kind = k;
  low = fitted k (get_or ends (2 * i) 0);
  high = fitted k (get_or ends (2 * i + 1) 0);
}

-- the ends of m sides; 0 past them
unfoldable pub carried : (ℕ → Ends) → ℕ → List ℕ
carried side m = join (λ i. cond (ltb i m) (side i).low 0 ∷ cond (ltb i m) (side i).high 0 ∷ []) 0 4

-- of a query's sides
abbrev pub ends_of_window : List Side → ℕ → List ℕ
ends_of_window sides m = carried (λ i. ends_of (range_in sides i)) m

-- each end of m sides of these kinds fits its kind
abbrev pub Fitting : (ℕ → Kind) → List ℕ → ℕ → Type 0
Fitting kind ends m =
    (i : ℕ) → i < m
    → (get_or ends (2 * i) 0 < 256 ^ end_bytes (kind i)) × (get_or ends (2 * i + 1) 0 < 256 ^ end_bytes (kind i))
