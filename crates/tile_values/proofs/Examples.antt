-- Worked cases of the rules, by computation from the definitions: bodies of two tiles.
-- Assumes nothing.
use mathlib.Core.Path.{◌≡◌, refl}
use mathlib.Core.List.{List, [], ◌∷◌, ◌++◌}
use Prim.Native.Nat.{ℕ, ◌-◌, ◌^◌}
use lib.ListN.{take}
use lib.Ieee.{nan_bits}
use Rattle.answers.specs.Runs.{over}
use Rattle.answers.specs.Checks.{first}
use Rattle.order.specs.Little.{little, bytes_of}
use Rattle.order.specs.Key.{signed_key, float_key}
use Rattle.description.specs.declared.Kind.TheVariants.{Int32, Int64, Float32, Float64}
use Rattle.description.specs.Kinds.{is_nan, key}
use Rattle.tile_metadata.specs.Bodies.{layout_refusal, value_of}
use Rattle.tile_values.specs.Values.{fixed_refusal, values_refusal, maxes_refusal, values_answer, pair_answer}
use Rattle.tile_values.specs.Values.{value_answer}

-- count 2, two values of w bytes, the buffer's size, the buffer
body : ℕ → ℕ → ℕ → ℕ → List ℕ → List ℕ
body w a b size buffer = bytes_of 8 2 ++ (bytes_of w a ++ (bytes_of w b ++ (bytes_of 8 size ++ buffer)))

-- two int32 values
accepted : values_answer Int32 2 (body 4 7 9 0 []) ≡ record { number = 0; place = 0; tiles = 2 }
unfolding body little bytes_of over first layout_refusal fixed_refusal values_refusal is_nan nan_bits
accepted = refl

-- a value is its pattern: of -1 that is 2^32 - 1
minus_one : value_answer Int32 2 (body 4 7 (2 ^ 32 - 1) 0 []) 1 ≡ 2 ^ 32 - 1
unfolding body little bytes_of over first layout_refusal fixed_refusal values_refusal is_nan nan_bits value_of
minus_one = refl

-- of a tile that isn't there, 0
past-last : value_answer Int32 2 (body 4 7 9 0 []) 2 ≡ 0
unfolding body little bytes_of over first layout_refusal fixed_refusal values_refusal is_nan nan_bits value_of
past-last = refl

-- no tiles: 10 before all else
no-tiles : values_answer Int32 0 [] ≡ record { number = 10; place = 0; tiles = 0 }
unfolding body little bytes_of over first layout_refusal fixed_refusal values_refusal is_nan nan_bits
no-tiles = refl

-- seven bytes: 2
seven-bytes : values_answer Int32 2 (take 7 (body 4 7 9 0 [])) ≡ record { number = 2; place = 7; tiles = 0 }
unfolding body little bytes_of over first layout_refusal fixed_refusal values_refusal is_nan nan_bits
seven-bytes = refl

-- another count than n: 17
other-count : values_answer Int32 3 (body 4 7 9 0 []) ≡ record { number = 17; place = 0; tiles = 0 }
unfolding body little bytes_of over first layout_refusal fixed_refusal values_refusal is_nan nan_bits
other-count = refl

-- a buffer size that isn't 0, with as many bytes: 2
size-not-zero : values_answer Int32 2 (body 4 7 9 1 (0 ∷ [])) ≡ record { number = 2; place = 25; tiles = 0 }
unfolding body little bytes_of over first layout_refusal fixed_refusal values_refusal is_nan nan_bits
size-not-zero = refl

-- a NaN is 8 at the start of its entry
nan : values_answer Float32 2 (body 4 0 2143289344 0 []) ≡ record { number = 8; place = 12; tiles = 0 }
unfolding body little bytes_of over first layout_refusal fixed_refusal values_refusal is_nan nan_bits
nan = refl

-- an infinity is fine
infinity : values_answer Float32 2 (body 4 0 2139095040 0 []) ≡ record { number = 0; place = 0; tiles = 2 }
unfolding body little bytes_of over first layout_refusal fixed_refusal values_refusal is_nan nan_bits
infinity = refl

-- the mins are checked whole before the maxes
mins-first : pair_answer Float32 2 (body 4 0 2143289344 0 []) [] ≡ record { number = 8; place = 12; which = 0; tiles = 0 }
unfolding body little bytes_of over first layout_refusal fixed_refusal values_refusal is_nan nan_bits maxes_refusal key signed_key float_key
mins-first = refl

-- a NaN of a later max comes before a min above its max
nan-before-order : pair_answer Float32 2 (body 4 1 0 0 []) (body 4 0 2143289344 0 []) ≡ record { number = 8; place = 12; which = 1; tiles = 0 }
unfolding body little bytes_of over first layout_refusal fixed_refusal values_refusal is_nan nan_bits maxes_refusal key signed_key float_key
nan-before-order = refl

-- a min above its max: 9 at the max. 2^32 - 1 is -1
above : pair_answer Int32 2 (body 4 5 0 0 []) (body 4 5 (2 ^ 32 - 1) 0 []) ≡ record { number = 9; place = 12; which = 1; tiles = 0 }
unfolding body little bytes_of over first layout_refusal fixed_refusal values_refusal is_nan nan_bits maxes_refusal key signed_key float_key
above = refl

-- as int64 the same patterns are in order
not-above : pair_answer Int64 2 (body 8 5 0 0 []) (body 8 5 (2 ^ 32 - 1) 0 []) ≡ record { number = 0; place = 0; which = 0; tiles = 2 }
unfolding body little bytes_of over first layout_refusal fixed_refusal values_refusal is_nan nan_bits maxes_refusal key signed_key float_key
not-above = refl

-- from 0.0 to -0.0
zeros : pair_answer Float64 2 (body 8 0 0 0 []) (body 8 (2 ^ 63) 0 0 []) ≡ record { number = 0; place = 0; which = 0; tiles = 2 }
unfolding body little bytes_of over first layout_refusal fixed_refusal values_refusal is_nan nan_bits maxes_refusal key signed_key float_key
zeros = refl
