-- Worked cases of the rules, by computation from the definitions: bodies of two tiles.
-- Assumes nothing.
use mathlib.Core.Path.{◌≡◌, refl}
use mathlib.Core.List.{List, [], ◌∷◌, ◌++◌}
use Prim.Native.Nat.{ℕ, ◌-◌, ◌^◌}
use lib.ListN.{take}
use Rattle.answers.specs.Runs.{over}
use Rattle.answers.specs.Checks.{first}
use Rattle.order.specs.Little.{little, bytes_of}
use Rattle.lists.specs.Offsets.{offset_of, extent_of}
use Rattle.tile_metadata.specs.Bodies.{layout_refusal}
use Rattle.var_values.specs.VarValues.{var_values_refusal, var_values_answer, var_place_of, var_place_answer, var_value_of}
use Rattle.var_values.specs.VarValues.{var_value_answer}

-- count 2, two starts, the buffer's size, the buffer
body : ℕ → ℕ → ℕ → List ℕ → List ℕ
body a b size buffer = bytes_of 8 2 ++ (bytes_of 8 a ++ (bytes_of 8 b ++ (bytes_of 8 size ++ buffer)))

-- var values
var-accepted : var_values_answer 2 (body 0 2 3 (97 ∷ 98 ∷ 99 ∷ [])) ≡ record { number = 0; place = 0; tiles = 2 }
unfolding body little bytes_of over first layout_refusal var_values_refusal
var-accepted = refl

-- the last one runs to the buffer's end
var-last : var_value_answer 2 (body 0 2 3 (97 ∷ 98 ∷ 99 ∷ [])) 1 ≡ 99 ∷ []
unfolding body little bytes_of over first layout_refusal var_values_refusal var_place_of var_value_of offset_of extent_of
var-last = refl

-- and lies there
var-place : var_place_answer 2 (body 0 2 3 (97 ∷ 98 ∷ 99 ∷ [])) 1 ≡ record { offset = 34; extent = 1 }
unfolding body little bytes_of over first layout_refusal var_values_refusal var_place_of offset_of extent_of
var-place = refl

-- a start above the buffer's size is 18
var-above : var_values_answer 2 (body 0 4 3 (97 ∷ 98 ∷ 99 ∷ [])) ≡ record { number = 18; place = 16; tiles = 0 }
unfolding body little bytes_of over first layout_refusal var_values_refusal
var-above = refl

-- a buffer size for which 2^64 is too small a total: 2
var-huge : var_values_answer 2 (body 0 0 (2 ^ 64 - 1) []) ≡ record { number = 2; place = 32; tiles = 0 }
unfolding body little bytes_of over first layout_refusal var_values_refusal
var-huge = refl

-- that wraps to the bytes there are: 2
var-wraps : var_values_answer 2 (take 31 (body 0 0 (2 ^ 64 - 1) [])) ≡ record { number = 2; place = 31; tiles = 0 }
unfolding body little bytes_of over first layout_refusal var_values_refusal
var-wraps = refl

-- values with no bytes, the first and the last
empty-first : var_value_answer 2 (body 0 0 1 (97 ∷ [])) 0 ≡ []
unfolding body little bytes_of over first layout_refusal var_values_refusal var_place_of var_value_of offset_of extent_of
empty-first = refl

empty-last : var_place_answer 2 (body 0 1 1 (97 ∷ [])) 1 ≡ record { offset = 33; extent = 0 }
unfolding body little bytes_of over first layout_refusal var_values_refusal var_place_of offset_of extent_of
empty-last = refl

-- a buffer with no bytes
no_bytes : var_values_answer 2 (body 0 0 0 []) ≡ record { number = 0; place = 0; tiles = 2 }
unfolding body little bytes_of over first layout_refusal var_values_refusal
no_bytes = refl

-- with no check, of bytes that end before the value does
cut_short : var_place_of 2 (take 33 (body 0 2 3 (97 ∷ 98 ∷ 99 ∷ []))) 1 ≡ record { offset = 0; extent = 0 }
unfolding body little bytes_of var_place_of offset_of extent_of
cut_short = refl
