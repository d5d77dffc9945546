-- A query's box: its own number of dimensions, and a range of its own kind for each.
-- Assumes nothing.
use Rattle.std.specs.Prelude.{ℕ, not, [], ◌∷◌, eqb}
use Rattle.answers.specs.Refusals.{window}
use Rattle.answers.specs.Checks.{check, first, each}
use Rattle.answers.specs.declared.Refusal.{Refusal}
use Rattle.description.specs.declared.Description.{Description}
use Rattle.boxes.specs.declared.Window.{Window}
use Rattle.description.specs.declared.Kind.{Kind}
use Rattle.ranges.specs.declared.Range.{Range}
use Rattle.description.specs.Kinds.{same_kind}
use Rattle.description.specs.Description.{kind_at, sides_of}
use Rattle.ranges.specs.Ranges.{ends_of, kind_of}
use Rattle.verdicts.specs.Verdicts.{verdict, asked_refusal}
use Rattle.boxes.specs.Boxes.{range_in}

-- of one dimension: 19 where the kind differs, then 8, 9
unfoldable pub side_refusal : Range → Kind → ℕ → Refusal
side_refusal r k place = first (
    check (not (same_kind (kind_of r) k)) window place
    ∷ asked_refusal (verdict (ends_of r) r) place
    ∷ []
    )

-- 19 for the number of dimensions; then per dimension 19, 8, 9, placed at the dimension from 0
unfoldable pub window_refusal : Description → Window → Refusal
window_refusal d w = first (
    check (not (eqb w.dimensions d.dimensions)) window 0
    ∷ each (λ i. side_refusal (range_in w.sides i) (kind_at d.kinds i) i) 0 (sides_of d.dimensions)
    ∷ []
    )
