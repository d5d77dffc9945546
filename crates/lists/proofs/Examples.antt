-- Worked cases of the rules, by computation from the definitions: lists of three tiles, with 0, 100, 300 as document 01
-- has it.
-- Assumes nothing.
use mathlib.Core.Path.{◌≡◌, refl}
use mathlib.Core.List.{List, [], ◌∷◌, ◌++◌}
use Prim.Native.Nat.{ℕ, zero, suc, ◌/◌, ◌%◌, ◌-◌, ◌^◌}
use Rattle.answers.specs.Runs.{over}
use Rattle.answers.specs.Checks.{first}
use Rattle.order.specs.Little.{little}
use Rattle.lists.specs.Lists.{list_refusal_by, entries_refusal_by}
use Rattle.lists.specs.Offsets.{offsets_refusal_by, offsets_answer, offset_of, extent_of, extent_answer}
use Rattle.lists.specs.VarOffsets.{var_offsets_refusal_by, var_offsets_answer, var_extent_answer}
use Rattle.lists.specs.Sizes.{sizes_refusal_by, sizes_answer}

bytes_of : ℕ → ℕ → List ℕ
bytes_of zero x = []
bytes_of (suc m) x = x % 256 ∷ bytes_of m (x / 256)

three : ℕ → ℕ → ℕ → List ℕ
three a b c = bytes_of 8 3 ++ (bytes_of 8 a ++ (bytes_of 8 b ++ bytes_of 8 c))

-- the last offset isn't below S: 18 at the start of its entry
last-at-size : offsets_answer 3 300 (three 0 100 300) ≡ record { number = 18; place = 24; tiles = 0 }
unfolding bytes_of three little over first list_refusal_by entries_refusal_by offsets_refusal_by
last-at-size = refl

accepted : offsets_answer 3 300 (three 0 100 250) ≡ record { number = 0; place = 0; tiles = 3 }
unfolding bytes_of three little over first list_refusal_by entries_refusal_by offsets_refusal_by
accepted = refl

-- the last extent runs to S
last-extent : extent_answer 3 300 (three 0 100 250) 2 ≡ record { offset = 250; extent = 50 }
unfolding bytes_of three little over first list_refusal_by entries_refusal_by offsets_refusal_by offset_of extent_of
last-extent = refl

-- as var offsets the same list is accepted, and its last tile has no bytes
var-accepted : var_offsets_answer 3 300 (three 0 100 300) ≡ record { number = 0; place = 0; tiles = 3 }
unfolding bytes_of three little over first list_refusal_by entries_refusal_by var_offsets_refusal_by
var-accepted = refl

var-last-empty : var_extent_answer 3 300 (three 0 100 300) 2 ≡ record { offset = 300; extent = 0 }
unfolding bytes_of three little over first list_refusal_by entries_refusal_by var_offsets_refusal_by offset_of extent_of
var-last-empty = refl

-- S may be 0
var-no-bytes : var_offsets_answer 3 0 (three 0 0 0) ≡ record { number = 0; place = 0; tiles = 3 }
unfolding bytes_of three little over first list_refusal_by entries_refusal_by var_offsets_refusal_by
var-no-bytes = refl

-- one that falls, and one above S
var-falls : var_offsets_answer 3 300 (three 0 100 99) ≡ record { number = 18; place = 24; tiles = 0 }
unfolding bytes_of three little over first list_refusal_by entries_refusal_by var_offsets_refusal_by
var-falls = refl

var-above-size : var_offsets_answer 3 300 (three 0 301 301) ≡ record { number = 18; place = 16; tiles = 0 }
unfolding bytes_of three little over first list_refusal_by entries_refusal_by var_offsets_refusal_by
var-above-size = refl

-- 2^64 - 1 is accepted, and one more is 20 at the start of the entry that does it
full : sizes_answer 3 (three (2 ^ 64 - 2) 1 0) ≡ record { number = 0; place = 0; sum = 2 ^ 64 - 1 }
unfolding bytes_of three little over first list_refusal_by entries_refusal_by sizes_refusal_by
full = refl

past-full : sizes_answer 3 (three (2 ^ 64 - 2) 1 1) ≡ record { number = 20; place = 24; sum = 0 }
unfolding bytes_of three little over first list_refusal_by entries_refusal_by sizes_refusal_by
past-full = refl
