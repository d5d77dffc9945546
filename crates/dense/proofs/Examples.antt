-- Worked cases, computed: twelve rows in tiles of 4 and ten columns in tiles of 5, in both orders; domains of 2^64
-- cells; and the order of the checks.
-- Assumes nothing.
use mathlib.Core.Path.{◌≡◌, refl}
use mathlib.Core.List.{[], ◌∷◌}
use lib.IntN.{pos}
use Rattle.answers.specs.Runs.{over}
use Rattle.answers.specs.Refusals.{refusal, none, reversed, tiles, grid}
use Rattle.answers.specs.Checks.{first}
use Rattle.order.specs.Key.{signed_key}
use Rattle.description.specs.declared.Kind.TheVariants.{Int32, Uint64}
use Rattle.description.specs.declared.Description.{Description}
use Rattle.description.specs.Kinds.{key, is_nan, is_infinite}
use Rattle.description.specs.Description.{limits_refusal, retired_refusal}
use Rattle.ranges.specs.declared.Range.{Range}
use Rattle.ranges.specs.declared.Range.TheVariants.{I32, U64}
use Rattle.ranges.specs.Ranges.{ends_of, has_nan}
use Rattle.verdicts.specs.Verdicts.{has_infinity, is_reversed, verdict}
use Rattle.boxes.specs.declared.Window.{Window}
use Rattle.boxes.specs.Windows.{side_refusal, window_refusal}
use Rattle.tree.specs.Flat.{passing}
use Rattle.dense.specs.declared.Order.TheVariants.{RowMajor, ColumnMajor}
use Rattle.dense.specs.Grid.{tile_meets}
use Rattle.dense.specs.Dense.{low_key, high_key, tiles_along, along_meets, split_refusal, grid_refusal, touched}

abbrev box : Range → Range → Window
box a b = record { dimensions = 2; sides = record { range = a } ∷ record { range = b } ∷ [] }

abbrev plane : Description
plane = record { dimensions = 2; kinds = record { kind = Int32 } ∷ record { kind = Uint64 } ∷ []; fields = 1; capacity = 1 }

abbrev domain : Window
domain = box (I32 (pos 0) (pos 11)) (U64 1 10)

abbrev asked : Window
asked = box (I32 (pos 4) (pos 8)) (U64 5 6)

pub both-orders : (touched plane domain (4 ∷ 5 ∷ []) asked RowMajor ≡ 2 ∷ 3 ∷ 4 ∷ 5 ∷ [])
    × (touched plane domain (4 ∷ 5 ∷ []) asked ColumnMajor ≡ 1 ∷ 2 ∷ 4 ∷ 5 ∷ [])
unfolding touched passing tile_meets over tiles_along along_meets low_key high_key key signed_key ends_of
both-orders = (refl, refl)

-- a window outside the domain, and one cell at its end
pub edges : (touched plane domain (4 ∷ 5 ∷ []) (box (I32 (pos 12) (pos 20)) (U64 0 99)) RowMajor ≡ [])
    × (touched plane domain (4 ∷ 5 ∷ []) (box (I32 (pos 11) (pos 11)) (U64 10 10)) RowMajor ≡ 5 ∷ [])
unfolding touched passing tile_meets over tiles_along along_meets low_key high_key key signed_key ends_of
edges = (refl, refl)

-- 2^64 cells split into 2 tiles of 2^63; no extent above the domain's size splits it
pub splitting : (split_refusal (U64 0 18_446_744_073_709_551_615) 9_223_372_036_854_775_808 0 ≡ none)
    × (tiles_along (U64 0 18_446_744_073_709_551_615) 9_223_372_036_854_775_808 ≡ 2)
    × (split_refusal (U64 1 10) 20 1 ≡ refusal grid 1)
    × (split_refusal (U64 1 10) 0 1 ≡ refusal grid 1)
    × (split_refusal (U64 1 10) 3 0 ≡ refusal grid 0)
unfolding split_refusal tiles_along low_key high_key key ends_of
splitting = (refl, refl, refl, refl, refl)

-- The order of the checks: a fault of the domain before any 29, 29 before 10, and 10 past 2^64 tiles too.
pub ordering : (grid_refusal plane (box (I32 (pos 0) (pos 11)) (U64 10 1)) (5 ∷ 0 ∷ []) ≡ refusal reversed 1)
    × (grid_refusal plane domain (5 ∷ 0 ∷ []) ≡ refusal grid 0)
    × (grid_refusal plane (box (I32 (pos 0) (pos 16_777_216)) (U64 1 1)) (1 ∷ 0 ∷ []) ≡ refusal grid 1)
    × (grid_refusal plane (box (I32 (pos 0) (pos 16_777_216)) (U64 1 1)) (1 ∷ 1 ∷ []) ≡ refusal tiles 0)
    × (grid_refusal plane (box (I32 (pos 0) (pos 16_777_215)) (U64 1 1)) (1 ∷ 1 ∷ []) ≡ none)
    × (grid_refusal plane (box (I32 (pos 0) (pos 15)) (U64 0 18_446_744_073_709_551_615)) (1 ∷ 1 ∷ []) ≡ refusal tiles 0)
unfolding first over grid_refusal limits_refusal retired_refusal window_refusal side_refusal verdict has_nan has_infinity is_reversed is_nan is_infinite split_refusal tiles_along low_key high_key key signed_key ends_of
ordering = (refl, refl, refl, refl, refl, refl)
