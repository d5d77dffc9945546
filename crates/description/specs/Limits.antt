-- The limits: what is the least and the most of each number.
-- Assumes nothing.
use Rattle.std.specs.Prelude.{ℕ, ◌≤◌, Bool, ◌||◌, ltb}

-- D
abbrev pub least_dimensions : ℕ
least_dimensions = 1

abbrev pub most_dimensions : ℕ
most_dimensions = 4

-- N
abbrev pub least_fields : ℕ
least_fields = 1

abbrev pub most_fields : ℕ
most_fields = 64

-- C
abbrev pub least_capacity : ℕ
least_capacity = 1

abbrev pub most_capacity : ℕ
most_capacity = 1_000_000_000

abbrev pub least_version : ℕ
least_version = 16

abbrev pub most_version : ℕ
most_version = 21

-- schema name bytes
abbrev pub least_name : ℕ
least_name = 1

abbrev pub most_name : ℕ
most_name = 255

-- tiles n
abbrev pub least_tiles : ℕ
least_tiles = 1

abbrev pub most_tiles : ℕ
most_tiles = 16_777_216

-- fanout f
abbrev pub least_fanout : ℕ
least_fanout = 2

abbrev pub most_fanout : ℕ
most_fanout = 1_024

-- x is below the least or above the most
abbrev pub outside : ℕ → ℕ → ℕ → Bool
outside least most x = ltb x least || ltb most x

-- n tiles and fanout f within the limits
pub record Sizes (n f : ℕ) : Type 0 where
  pub some : least_tiles ≤ n
  pub most : n ≤ most_tiles
  pub least : least_fanout ≤ f
  pub widest : f ≤ most_fanout
