-- The description: D dimensions with their kinds, N, the entries in each per-field list, and the capacity C in cells.
-- Assumes nothing.
use Rattle.std.specs.Prelude.{ℕ, min, Bool, List, [], ◌∷◌, get_or}
use Rattle.answers.specs.Refusals.{description, retired, grid}
use Rattle.answers.specs.Runs.{sum}
use Rattle.answers.specs.Checks.{check, otherwise, first, each}
use Rattle.answers.specs.declared.Refusal.{Refusal}
use Rattle.description.specs.declared.Kind.{Kind}
use Rattle.description.specs.declared.Kind.TheVariants.{Int32}
use Rattle.description.specs.declared.Dimension.{Dimension}
use Rattle.description.specs.declared.Description.{Description}
use Rattle.description.specs.Limits.{least_dimensions, most_dimensions, least_fields, most_fields, least_capacity, most_capacity, outside}
use Rattle.description.specs.Kinds.{range_bytes, is_float32, is_float}

-- 1: description outside the limits
unfoldable pub limits_refusal : Description → Refusal
limits_refusal d = first (
    check (outside least_dimensions most_dimensions d.dimensions) description 0
    ∷ check (outside least_fields most_fields d.fields) description 0
    ∷ check (outside least_capacity most_capacity d.capacity) description 0
    ∷ []
    )

-- the kind of dimension i, of a description's kinds
abbrev pub kind_at : List Dimension → ℕ → Kind
kind_at kinds i = (get_or kinds i (record { kind = Int32 })).kind

-- the bytes of the dimensions before dimension i: where dimension i starts in a box
unfoldable pub side_start : List Dimension → ℕ → ℕ
side_start kinds i = sum (λ j. range_bytes (kind_at kinds j)) 0 i

-- how many sides of a box count: one a dimension, and no more than there are
abbrev pub sides_of : ℕ → ℕ
sides_of dimensions = min dimensions most_dimensions

-- B, the sum of the box bytes of all dimensions
unfoldable pub bytes_of_box : Description → ℕ
bytes_of_box d = side_start d.kinds (sides_of d.dimensions)

-- a refusal at the first dimension whose kind is one of these
abbrev pub kinds_refusal : (Kind → Bool) → ℕ → Description → Refusal
kinds_refusal these number d = each (λ i. check (these (kind_at d.kinds i)) number i) 0 (sides_of d.dimensions)

-- 28 at the first float32 dimension
unfoldable pub retired_refusal : Description → Refusal
retired_refusal = kinds_refusal is_float32 retired

-- 29 at the first float dimension
unfoldable pub float_refusal : Description → Refusal
float_refusal = kinds_refusal is_float grid

-- 1, and directly after it 28
abbrev pub description_refusal : Description → Refusal
description_refusal d = otherwise (limits_refusal d) (retired_refusal d)
