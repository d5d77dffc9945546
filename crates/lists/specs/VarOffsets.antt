-- When are var offsets refused, whose tiles may have no bytes, and when are starts in a buffer? Where a tile's bytes
-- start and end is said as for tiles of fixed size. Assumes nothing.
use Rattle.std.specs.Prelude.{ℕ, ◌+◌, ◌-◌, ◌*◌, Bool, not, ◌||◌, cond, List, [], ◌∷◌, ltb, eqb, length}
use Rattle.answers.specs.Refusals.{bytes, the_tile_offsets}
use Rattle.answers.specs.Checks.{check, first, each}
use Rattle.answers.specs.declared.Refusal.{Refusal}
use Rattle.description.specs.Rules.{Rules, current}
use Rattle.lists.specs.declared.TileOffsets.{TileOffsets}
use Rattle.lists.specs.declared.Extent.{Extent}
use Rattle.lists.specs.Lists.{entry, entries_refusal_by}
use Rattle.lists.specs.Offsets.{answered, extent_at, asked}

-- "Var offset lists get a rule of their own: first 0, never falling, none above S", else 18
abbrev pub var_breaks : ℕ → (ℕ → ℕ) → ℕ → Bool
var_breaks S offset i = cond (eqb i 0) (not (eqb (offset i) 0)) (ltb (offset i) (offset (i - 1))) || ltb S (offset i)

unfoldable pub var_offsets_refusal_by : Rules → ℕ → ℕ → List ℕ → Refusal
var_offsets_refusal_by rules n S s = entries_refusal_by rules (var_breaks S (entry s)) the_tile_offsets n s

abbrev pub var_offsets_refusal : ℕ → ℕ → List ℕ → Refusal
var_offsets_refusal = var_offsets_refusal_by current

abbrev pub var_offsets_answer_by : Rules → ℕ → ℕ → List ℕ → TileOffsets
var_offsets_answer_by rules n S s = answered n (var_offsets_refusal_by rules n S s)

abbrev pub var_offsets_answer : ℕ → ℕ → List ℕ → TileOffsets
var_offsets_answer = var_offsets_answer_by current

abbrev pub var_extent_answer_by : Rules → ℕ → ℕ → List ℕ → ℕ → Extent
var_extent_answer_by rules n S s i = asked (var_offsets_refusal_by rules n S s) (extent_at n S s i)

abbrev pub var_extent_answer : ℕ → ℕ → List ℕ → ℕ → Extent
var_extent_answer = var_extent_answer_by current

-- The same rule for the n starts, from byte 8 of a body on, of values in a buffer of `size` bytes, whatever stands
-- before and after them. A body that doesn't have them all is refused by its length.
unfoldable pub starts_refusal : ℕ → ℕ → List ℕ → Refusal
starts_refusal n size s = first (
    check (ltb (length s) (8 + 8 * n)) bytes (length s)
    ∷ each (λ i. check (var_breaks size (entry s) i) the_tile_offsets (8 + 8 * i)) 0 n
    ∷ []
    )
