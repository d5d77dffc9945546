-- What is a body of tile metadata, before its entries, and what do one body and two that are lent together answer?
-- Assumes nothing.
use Rattle.std.specs.Prelude.{ℕ, Result, Ok, Err, ◌+◌, ◌*◌, Bool, not, cond, List, [], ◌∷◌, ltb, eqb, length, drop}
use Rattle.answers.specs.Refusals.{bytes, tiles, count}
use Rattle.answers.specs.Checks.{check, first, each}
use Rattle.answers.specs.declared.Refusal.{Refusal}
use Rattle.answers.specs.declared.Refused.{Refused}
use Rattle.answers.specs.Told.{number_of}
use Rattle.description.specs.Limits.{least_tiles, most_tiles, outside}
use Rattle.order.specs.Little.{little}
use Rattle.tile_metadata.specs.declared.TileValues.{TileValues}
use Rattle.tile_metadata.specs.declared.TwoBodies.{TwoBodies}

-- "count, values, var buffer size, var buffer": value i, of w bytes, and the buffer's size after n of them
abbrev pub value_at : ℕ → List ℕ → ℕ → ℕ
value_at w s i = little s (8 + w * i) w

abbrev pub buffer_size : ℕ → ℕ → List ℕ → ℕ
buffer_size w n s = little s (8 + w * n) 8

abbrev pub buffer : ℕ → ℕ → List ℕ → List ℕ
buffer w n s = drop (16 + w * n) s

-- "Checks go in body order: 10, under 8 bytes (2), count not n (17), byte total .. wrong (2)". The total is a whole
-- number of any size: a buffer size near 2^64 makes it larger than any body.
unfoldable pub layout_refusal : ℕ → ℕ → List ℕ → Refusal
layout_refusal w n s = first (
    check (outside least_tiles most_tiles n) tiles 0
    ∷ check (ltb (length s) 8) bytes (length s)
    ∷ check (not (eqb (little s 0 8) n)) count 0
    ∷ check (not (eqb (length s) (16 + w * n + buffer_size w n s))) bytes (length s)
    ∷ []
    )

-- "then entries": the first of the n values, of w bytes each, that breaks a rule, at its start
abbrev pub values_break : (ℕ → Bool) → ℕ → ℕ → ℕ → Refusal
values_break breaks number w n = each (λ i. check (breaks i) number (8 + w * i)) 0 n

-- "An accepted body answers n": a refusal has 0 there
abbrev pub answered : ℕ → Refusal → TileValues
answered n r = record { number = r.number; place = r.place; tiles = cond (eqb r.number 0) n 0 }

-- what code tells: n, or what the error says
unfoldable pub told_values : Result ℕ Refused → TileValues
told_values (Ok n) = record { number = 0; place = 0; tiles = n }
told_values (Err e) = record { number = number_of e.reason; place = e.place; tiles = 0 }

-- Two lent together, 0 the first and 1 the second: what is said of the first comes before what is said of the second. A
-- refusal tells which of the two its place counts in, and every other number is 0.
abbrev pub refused_in : ℕ → Refusal → TwoBodies
refused_in which r = record { number = r.number; place = r.place; which = which; tiles = 0 }

abbrev pub together : ℕ → Refusal → Refusal → TwoBodies
together n a b =
    cond (eqb a.number 0)
    (cond (eqb b.number 0) (record { number = 0; place = 0; which = 0; tiles = n }) (refused_in 1 b))
    (refused_in 0 a)

-- "a further request for tile i": value i where there is such a tile, else 0
unfoldable pub value_of : ℕ → ℕ → List ℕ → ℕ → ℕ
value_of w n s i = cond (ltb i n) (value_at w s i) 0

-- "Each is 0 or empty for a refused body": by the number of the refusal
abbrev pub unless_refused : {A : Type 0} → ℕ → A → A → A
unless_refused number x nothing = cond (eqb number 0) x nothing
