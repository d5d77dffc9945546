-- When are the mins or the maxes of a field of a fixed kind refused, by themselves and together, and what is tile i's?
-- Assumes nothing.
use Rattle.std.specs.Prelude.{ℕ, Bool, not, List, [], ◌∷◌, ltb, eqb, length}
use Rattle.answers.specs.Refusals.{bytes, not_a_number, reversed}
use Rattle.answers.specs.Checks.{check, first}
use Rattle.answers.specs.declared.Refusal.{Refusal}
use Rattle.description.specs.declared.Kind.{Kind}
use Rattle.description.specs.Kinds.{end_bytes, is_nan, key}
use Rattle.tile_metadata.specs.declared.TileValues.{TileValues}
use Rattle.tile_metadata.specs.declared.TwoBodies.{TwoBodies}
use Rattle.tile_values.specs.declared.Bounds.{Bounds}
use Rattle.tile_metadata.specs.Bodies.{value_at, buffer_size, layout_refusal, values_break, answered, together, value_of}
use Rattle.tile_metadata.specs.Bodies.{unless_refused}

-- the pattern of value i
abbrev pub pattern : Kind → List ℕ → ℕ → ℕ
pattern k s i = value_at (end_bytes k) s i

-- "for fixed kinds the buffer size is 0 .. byte total or buffer size wrong (2)"
unfoldable pub fixed_refusal : Kind → ℕ → List ℕ → Refusal
fixed_refusal k n s =
    first (layout_refusal (end_bytes k) n s ∷ check (not (eqb (buffer_size (end_bytes k) n s) 0)) bytes (length s) ∷ [])

-- "then entries .. a NaN is 8", at the start of its entry
abbrev pub nan_breaks : Kind → ℕ → List ℕ → Refusal
nan_breaks k n s = values_break (λ i. is_nan k (pattern k s i)) not_a_number (end_bytes k) n

unfoldable pub values_refusal : Kind → ℕ → List ℕ → Refusal
values_refusal k n s = first (fixed_refusal k n s ∷ nan_breaks k n s ∷ [])

-- "then a tile's min above its max is 9 at the start of the max, first tile first"
abbrev pub min_above : Kind → List ℕ → List ℕ → ℕ → Bool
min_above k mins maxes i = ltb (key k (pattern k maxes i)) (key k (pattern k mins i))

abbrev pub order_breaks : Kind → ℕ → List ℕ → List ℕ → Refusal
order_breaks k n mins maxes = values_break (min_above k mins maxes) reversed (end_bytes k) n

-- what counts in the maxes, where mins are sound
unfoldable pub maxes_refusal : Kind → ℕ → List ℕ → List ℕ → Refusal
maxes_refusal k n mins maxes = first (values_refusal k n maxes ∷ order_breaks k n mins maxes ∷ [])

abbrev pub values_answer : Kind → ℕ → List ℕ → TileValues
values_answer k n s = answered n (values_refusal k n s)

-- "mins are checked whole before maxes"
abbrev pub pair_answer : Kind → ℕ → List ℕ → List ℕ → TwoBodies
pair_answer k n mins maxes = together n (values_refusal k n mins) (maxes_refusal k n mins maxes)

-- tile i's pattern, with the check and without it
abbrev pub pattern_of : Kind → ℕ → List ℕ → ℕ → ℕ
pattern_of k n s i = value_of (end_bytes k) n s i

abbrev pub value_answer : Kind → ℕ → List ℕ → ℕ → ℕ
value_answer k n s i = unless_refused (values_refusal k n s).number (pattern_of k n s i) 0

-- tile i's min and max, of two bodies that were opened together
abbrev pub bounds_of : Kind → ℕ → List ℕ → List ℕ → ℕ → Bounds
bounds_of k n mins maxes i = record { min = pattern_of k n mins i; max = pattern_of k n maxes i }

abbrev pub bounds_answer : Kind → ℕ → List ℕ → List ℕ → ℕ → Bounds
bounds_answer k n mins maxes i =
    unless_refused (pair_answer k n mins maxes).number (bounds_of k n mins maxes i) (record { min = 0; max = 0 })
