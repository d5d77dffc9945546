-- When are the mins or the maxes of a var field refused, by themselves and together, and what is tile i's?
-- Assumes nothing.
use Rattle.std.specs.Prelude.{ℕ, ◌+◌, ◌*◌, List, [], ◌∷◌, ◌&&◌, cond, ltb, leb, length, take, drop}
use Rattle.answers.specs.Refusals.{the_tile_offsets}
use Rattle.answers.specs.Checks.{first}
use Rattle.answers.specs.declared.Refusal.{Refusal}
use Rattle.lists.specs.declared.Extent.{Extent}
use Rattle.lists.specs.Lists.{entry}
use Rattle.lists.specs.Offsets.{offset_of, extent_of}
use Rattle.lists.specs.VarOffsets.{var_breaks}
use Rattle.tile_metadata.specs.declared.TileValues.{TileValues}
use Rattle.tile_metadata.specs.declared.TwoBodies.{TwoBodies}
use Rattle.tile_metadata.specs.Bodies.{buffer_size, layout_refusal, values_break, answered, together, unless_refused}

-- "for var fields the values are starts in the buffer, never falling, first 0, none above its size": the rule of var
-- offsets. "A start that breaks its rule is 18".
unfoldable pub var_values_refusal : ℕ → List ℕ → Refusal
var_values_refusal n s =
    first (layout_refusal 8 n s ∷ values_break (var_breaks (buffer_size 8 n s) (entry s)) the_tile_offsets 8 n ∷ [])

abbrev pub var_values_answer : ℕ → List ℕ → TileValues
var_values_answer n s = answered n (var_values_refusal n s)

-- 9 is "for fixed kinds only"
abbrev pub var_pair_answer : ℕ → List ℕ → List ℕ → TwoBodies
var_pair_answer n mins maxes = together n (var_values_refusal n mins) (var_values_refusal n maxes)

-- no part of a body
abbrev pub nowhere : Extent
nowhere = record { offset = 0; extent = 0 }

-- "A var value runs to the next start or the buffer's end": its start and extent are those of var offsets with the
-- buffer's size. Where it lies in the body, the place of its first byte and how many bytes it has; nowhere where there is
-- no such tile, or the bytes end before the value does.
unfoldable pub var_place_of : ℕ → List ℕ → ℕ → Extent
var_place_of n s i =
    let offset = offset_of n s i in
    let extent = extent_of n (buffer_size 8 n s) s i in
    cond (ltb i n && leb (16 + 8 * n + (offset + extent)) (length s))
    (record { offset = 16 + 8 * n + offset; extent = extent }) nowhere

-- "returned as that part of the lent body"
unfoldable pub var_value_of : ℕ → List ℕ → ℕ → List ℕ
var_value_of n s i = take (var_place_of n s i).extent (drop (var_place_of n s i).offset s)

-- after the check
abbrev pub var_place_answer : ℕ → List ℕ → ℕ → Extent
var_place_answer n s i = unless_refused (var_values_refusal n s).number (var_place_of n s i) nowhere

abbrev pub var_value_answer : ℕ → List ℕ → ℕ → List ℕ
var_value_answer n s i = unless_refused (var_values_refusal n s).number (var_value_of n s i) []
