-- The refusal numbers in their order, each under the words of the rules; and a refusal's number and place.
-- Assumes nothing.
use Rattle.std.specs.Prelude.{ℕ}
use Rattle.answers.specs.declared.Refusal.{Refusal}

abbrev pub refusal : ℕ → ℕ → Refusal
refusal number place = record { number = number; place = place }

-- not refused
abbrev pub none : Refusal
none = refusal 0 0

-- description outside the limits
abbrev pub description : ℕ
description = 1

-- byte count or length field wrong
abbrev pub bytes : ℕ
bytes = 2

-- version outside the limits
abbrev pub version : ℕ
version = 3

-- name size outside the limits
abbrev pub the_name_size : ℕ
the_name_size = 4

-- a flag byte is neither 0 nor 1
abbrev pub flag : ℕ
flag = 5

-- the dense flag is not this entry's
abbrev pub dense : ℕ
dense = 6

-- null-domain flag is 1
abbrev pub the_null_domain : ℕ
the_null_domain = 7

-- a range end is NaN
abbrev pub not_a_number : ℕ
not_a_number = 8

-- minimum above maximum
abbrev pub reversed : ℕ
reversed = 9

-- tile number outside the limits
abbrev pub tiles : ℕ
tiles = 10

-- last tile's cells not 1 to the capacity
abbrev pub the_last_cells : ℕ
the_last_cells = 11

-- an offset not below the footer's place in the file
abbrev pub offset : ℕ
offset = 12

-- fanout outside the limits
abbrev pub fanout : ℕ
fanout = 13

-- level number or a level's box count wrong
abbrev pub levels : ℕ
levels = 14

-- a box not inside its parent
abbrev pub outside_parent : ℕ
outside_parent = 15

-- the first box not inside the domain
abbrev pub outside_domain : ℕ
outside_domain = 16

-- a list's count is not the number of tiles
abbrev pub count : ℕ
count = 17

-- tile offsets break their rule
abbrev pub the_tile_offsets : ℕ
the_tile_offsets = 18

-- the window's dimension number or a kind differs
abbrev pub window : ℕ
window = 19

-- tile sizes add up past 2^64 - 1
abbrev pub sizes_sum : ℕ
sizes_sum = 20

-- the work buffer is too short
abbrev pub work : ℕ
work = 21

-- the answer run is not as long as the query run
abbrev pub runs : ℕ
runs = 22

-- a stored range end is infinite
abbrev pub infinite : ℕ
infinite = 23

-- a bad line of a listing
abbrev pub bad_line : ℕ
bad_line = 24

-- a record repeated whole
abbrev pub repeated : ℕ
repeated = 25

-- the output buffer is too short
abbrev pub room : ℕ
room = 26

-- a null count above its tile's cells
abbrev pub null_count : ℕ
null_count = 27

-- a dimension of kind float32, which is retired
abbrev pub retired : ℕ
retired = 28

-- a float kind, an extent of 0, or a domain that does not split into whole tiles
abbrev pub grid : ℕ
grid = 29
