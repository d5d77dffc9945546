-- Single footers by the dense entry and by the sparse one, worked out from the definitions.
-- Assumes nothing.
use Prim.Native.Nat.{ℕ, zero, suc, ◌/◌, ◌%◌, ◌^◌, ◌-◌}
use mathlib.Core.Path.{◌≡◌, refl}
use mathlib.Core.List.{List, [], ◌∷◌, ◌++◌}
use lib.ListN.{replicate}
use Rattle.answers.specs.declared.Refusal.{Refusal}
use Rattle.answers.specs.Runs.{over}
use Rattle.answers.specs.Checks.{first}
use Rattle.order.specs.Key.{signed_key}
use Rattle.order.specs.Little.{little, first_of_two, second_of_two}
use Rattle.description.specs.declared.Description.{Description}
use Rattle.description.specs.declared.Kind.{Kind}
use Rattle.description.specs.declared.Kind.TheVariants.{Int32, Float32, Float64}
use Rattle.description.specs.Description.{limits_refusal, retired_refusal, float_refusal, side_start, bytes_of_box}
use Rattle.description.specs.Kinds.{key, is_nan, is_infinite, at_most}
use Rattle.ranges.specs.Ranges.{ends_at, has_nan}
use Rattle.verdicts.specs.Verdicts.{has_infinity, is_reversed, verdict}
use Rattle.boxes.specs.Boxes.{ranges_refusal}
use Rattle.footer.specs.Fields.{start, footer_bytes, no_flag, flag_is, number_outside, file_offsets_refusal}
use Rattle.footer.specs.Checks.{entry_refusal, footer_refusal, dense_footer_refusal}

-- a number as little-endian bytes
le : ℕ → ℕ → List ℕ
le zero x = []
le (suc m) x = x % 256 ∷ le m (x / 256)

-- a description of so many dimensions, the first of one kind and the others of another, and 32 cells a tile
described : ℕ → Kind → Kind → Description
described d a b = record {
  dimensions = d;
  kinds = record { kind = a } ∷ record { kind = b } ∷ record { kind = b } ∷ record { kind = b } ∷ [];
  fields = 1;
  capacity = 32;
}

-- a footer for one dimension: the dense flag, the null domain's, n and the last tile's cells as given
footer_of : ℕ → ℕ → ℕ → ℕ → List ℕ
footer_of dense null n last =
    le 4 21 ++ le 8 4 ++ le 4 0 ++ dense ∷ null ∷ le 4 0 ++ le 4 24 ++ le 8 n ++ le 8 last ++ 0 ∷ 0 ∷ replicate 112 0 ++ le 8 156

told : Refusal → List ℕ
told r = r.number ∷ r.place ∷ []

sparsely : List ℕ → List ℕ
sparsely footer = told (footer_refusal (described 1 Int32 Float64) 1000 footer)

densely : List ℕ → List ℕ
densely footer = told (dense_footer_refusal (described 1 Int32 Float64) 1000 footer)

worked : List (List ℕ)
worked =
    densely (footer_of 1 0 0 0)
    ∷ densely (footer_of 1 0 0 33)
    ∷ densely (footer_of 1 0 0 (2 ^ 64 - 1))
    ∷ densely (footer_of 0 0 0 0)
    ∷ densely (footer_of 2 0 0 0)
    ∷ densely (footer_of 1 1 0 0)
    ∷ densely (footer_of 1 0 1 1)
    ∷ densely (footer_of 0 0 3 5)
    ∷ sparsely (footer_of 0 0 3 5)
    ∷ sparsely (footer_of 1 0 3 5)
    ∷ sparsely (footer_of 1 0 0 0)
    ∷ sparsely (footer_of 2 0 3 5)
    ∷ sparsely (footer_of 0 0 0 5)
    ∷ sparsely (footer_of 0 0 3 33)
    ∷ told (dense_footer_refusal (described 1 Int32 Float64) 163 (footer_of 1 0 0 0))
    ∷ told (dense_footer_refusal (described 1 Int32 Float64) 164 (footer_of 1 0 0 0))
    ∷ told (dense_footer_refusal (described 2 Int32 Float64) 1000 [])
    ∷ told (dense_footer_refusal (described 2 Float64 Float32) 1000 [])
    ∷ told (dense_footer_refusal (described 5 Float32 Float64) 1000 [])
    ∷ densely []
    ∷ []

stated : List (List ℕ)
stated =
    -- accepted, whatever the last tile's cells say
    (0 ∷ 0 ∷ [])
    ∷ (0 ∷ 0 ∷ [])
    ∷ (0 ∷ 0 ∷ [])
    -- a dense flag of 0, of 2; null domain; a tile
    ∷ (6 ∷ 16 ∷ [])
    ∷ (5 ∷ 16 ∷ [])
    ∷ (7 ∷ 17 ∷ [])
    ∷ (10 ∷ 26 ∷ [])
    -- a sparse footer, and it in the sparse entry; there a dense flag of 1, of 2; no tiles; a last tile past the capacity
    ∷ (6 ∷ 16 ∷ [])
    ∷ (0 ∷ 0 ∷ [])
    ∷ (6 ∷ 16 ∷ [])
    ∷ (6 ∷ 16 ∷ [])
    ∷ (5 ∷ 16 ∷ [])
    ∷ (10 ∷ 26 ∷ [])
    ∷ (11 ∷ 34 ∷ [])
    -- F below the total, and no room for an offset
    ∷ (2 ∷ 164 ∷ [])
    ∷ (12 ∷ 68 ∷ [])
    -- a float kind before any byte; float32 anywhere before it; the limits before both; a float kind past the dimensions is none
    ∷ (29 ∷ 1 ∷ [])
    ∷ (28 ∷ 1 ∷ [])
    ∷ (1 ∷ 0 ∷ [])
    ∷ (2 ∷ 0 ∷ [])
    ∷ []

cases : worked ≡ stated
unfolding first over ranges_refusal limits_refusal retired_refusal float_refusal side_start bytes_of_box key is_nan is_infinite at_most ends_at has_nan has_infinity is_reversed verdict no_flag flag_is number_outside file_offsets_refusal entry_refusal start footer_bytes signed_key little first_of_two second_of_two le described footer_of told sparsely densely worked stated
cases = refl
