-- Worked cases, computed from the definitions: tree A of the rules (one int32 dimension, f = 2, leaves [0,4] [10,14] [20,24]), and lines that are
-- read or not.
-- Assumes nothing.
use Prim.Native.Nat.{ℕ, zero, suc, ◌/◌, ◌%◌}
use mathlib.Core.Path.{◌≡◌, refl}
use mathlib.Core.Bool.{true, false}
use mathlib.Core.List.{[], ◌∷◌, ◌++◌}
use lib.ListN.{replicate}
use Rattle.answers.specs.Checks.{first}
use Rattle.answers.specs.Runs.{over}
use Rattle.description.specs.declared.Description.{Description}
use Rattle.description.specs.declared.Kind.{Kind}
use Rattle.description.specs.declared.Kind.TheVariants.{Int32, Int64, Float32, Float64, Uint64}
use Rattle.description.specs.Description.{limits_refusal, retired_refusal, side_start, bytes_of_box}
use Rattle.description.specs.Kinds.{key, is_nan, is_infinite, at_most}
use Rattle.ranges.specs.Ranges.{ends_at, ends_of, has_nan, inside, meets}
use Rattle.verdicts.specs.Verdicts.{has_infinity, is_reversed, verdict}
use Rattle.boxes.specs.Boxes.{box_of, box_meets}
use Rattle.boxes.specs.Windows.{side_refusal, window_refusal}
use Rattle.order.specs.Key.{signed_key}
use Rattle.order.specs.Little.{little, first_of_two, second_of_two}
use Rattle.tree.specs.Shape.{up, boxes, children, height_above, height, levels, all_boxes, boxes_above, level_start, body_bytes}
use Rattle.tree.specs.Walk.{looked, found}
use Rattle.rtree.specs.Body.{front_refusal, size_refusal, counts_refusal, shape_refusal}
use Rattle.query.specs.Query.{asked_refusal_by, query_refusal_by, meeting, query_answer_by}
use Rattle.decimal.specs.Decimal.{written, decimal, value_from, all_digits, starts_well, is_decimal}
use Rattle.decimal.specs.Read.{read_number, read_signed, starts_with_minus}
use Rattle.range_text.specs.Ranges.{read_range}
use Rattle.text.specs.Text.{Bytes, newline, cut}
use Rattle.replay.specs.Records.{numbers_read, is_readable, logged_window}
use Rattle.replay.specs.Replay.{is_good_by, record_text_by, replay_text, replay_text_by, replay_answer, replay_answer_by, replay_buffer, replay_buffer_by}

described : Kind → ℕ → Description
described k d = record { dimensions = d; kinds = replicate 4 (record { kind = k }); fields = 1; capacity = 32 }

le : ℕ → ℕ → Bytes
le zero x = []
le (suc m) x = x % 256 ∷ le m (x / 256)

box : ℕ → ℕ → Bytes
box a b = le 4 a ++ le 4 b

tree_a : Bytes
tree_a =
    le 4 2 ++ le 4 3 ++ le 8 1 ++ box 0 24 ++ le 8 2 ++ box 0 14 ++ box 20 24 ++ le 8 3 ++ box 0 4 ++ box 10 14 ++ box 20 24

-- [12, 21] with 2 and 6; [5, 9] with one found, not none; [30, 40] with 2 looked at, not 1; an empty line; a reversed window; all of int32, with no
-- newline
log : Bytes
log = 49 ∷ 50 ∷ 9 ∷ 50 ∷ 49 ∷ 9 ∷ 50 ∷ 9 ∷ 54 ∷ 10 ∷ 53 ∷ 9 ∷ 57 ∷ 9 ∷ 49 ∷ 9 ∷ 53 ∷ 10 ∷ 51 ∷ 48 ∷ 9 ∷ 52 ∷ 48 ∷ 9 ∷ 48 ∷ 9 ∷ 50 ∷ 10 ∷ 10 ∷ 50 ∷ 49 ∷ 9 ∷ 49 ∷ 50 ∷ 9 ∷ 48 ∷ 9 ∷ 49 ∷ 10 ∷ 45 ∷ 50 ∷ 49 ∷ 52 ∷ 55 ∷ 52 ∷ 56 ∷ 51 ∷ 54 ∷ 52 ∷ 56 ∷ 9 ∷ 50 ∷ 49 ∷ 52 ∷ 55 ∷ 52 ∷ 56 ∷ 51 ∷ 54 ∷ 52 ∷ 55 ∷ 9 ∷ 51 ∷ 9 ∷ 54 ∷ []

-- `same`, `differs` twice, `bad` twice, `same`
text : Bytes
text = 48 ∷ 9 ∷ 115 ∷ 97 ∷ 109 ∷ 101 ∷ 9 ∷ 50 ∷ 9 ∷ 54 ∷ 9 ∷ 50 ∷ 9 ∷ 54 ∷ 10 ∷ 49 ∷ 9 ∷ 100 ∷ 105 ∷ 102 ∷ 102 ∷ 101 ∷ 114 ∷ 115 ∷ 9 ∷ 49 ∷ 9 ∷ 53 ∷ 9 ∷ 48 ∷ 9 ∷ 53 ∷ 10 ∷ 50 ∷ 9 ∷ 100 ∷ 105 ∷ 102 ∷ 102 ∷ 101 ∷ 114 ∷ 115 ∷ 9 ∷ 48 ∷ 9 ∷ 50 ∷ 9 ∷ 48 ∷ 9 ∷ 49 ∷ 10 ∷ 51 ∷ 9 ∷ 98 ∷ 97 ∷ 100 ∷ 10 ∷ 52 ∷ 9 ∷ 98 ∷ 97 ∷ 100 ∷ 10 ∷ 53 ∷ 9 ∷ 115 ∷ 97 ∷ 109 ∷ 101 ∷ 9 ∷ 51 ∷ 9 ∷ 54 ∷ 9 ∷ 51 ∷ 9 ∷ 54 ∷ 10 ∷ []

replayed : replay_text (described Int32 1) 3 tree_a log ≡ text
unfolding first over limits_refusal retired_refusal side_start bytes_of_box key is_nan is_infinite at_most ends_at ends_of has_nan has_infinity is_reversed verdict inside meets box_of box_meets side_refusal window_refusal signed_key little first_of_two second_of_two up boxes children height_above height levels all_boxes boxes_above level_start body_bytes looked found front_refusal size_refusal counts_refusal shape_refusal asked_refusal_by query_refusal_by meeting query_answer_by written decimal value_from all_digits starts_well is_decimal read_number read_signed starts_with_minus cut read_range numbers_read is_readable logged_window is_good_by record_text_by replay_text_by replay_answer_by replay_buffer_by described le box tree_a log text
replayed = refl

-- an empty log; one newline; a tree of another number of tiles, a description of no dimension, a float dimension: every line is `bad`; room of a byte less
-- than the text, of its length, and of more
bad-line : Bytes
bad-line = 48 ∷ 9 ∷ 98 ∷ 97 ∷ 100 ∷ 10 ∷ []

edges :
    (replay_text (described Int32 1) 3 tree_a [] ≡ [])
    × (replay_text (described Int32 1) 3 tree_a (newline ∷ []) ≡ bad-line)
    × (replay_text (described Int32 1) 4 tree_a (49 ∷ 50 ∷ 9 ∷ 50 ∷ 49 ∷ 9 ∷ 50 ∷ 9 ∷ 54 ∷ []) ≡ bad-line)
    × (replay_text (described Int32 0) 3 tree_a (50 ∷ 9 ∷ 54 ∷ []) ≡ bad-line)
    × (replay_text (described Float32 1) 3 tree_a (49 ∷ 50 ∷ 9 ∷ 50 ∷ 49 ∷ 9 ∷ 50 ∷ 9 ∷ 54 ∷ []) ≡ bad-line)
    × (replay_text (described Float64 1) 3 tree_a (49 ∷ 50 ∷ 9 ∷ 50 ∷ 49 ∷ 9 ∷ 50 ∷ 9 ∷ 54 ∷ []) ≡ bad-line)
    × (replay_answer (described Int32 1) 3 tree_a (newline ∷ []) 5 ≡ record { number = 26; place = 0; length = 0 })
    × (replay_answer (described Int32 1) 3 tree_a (newline ∷ []) 6 ≡ record { number = 0; place = 0; length = 6 })
    × (replay_buffer (described Int32 1) 3 tree_a (newline ∷ []) (replicate 5 7) ≡ replicate 5 7)
    × (replay_buffer (described Int32 1) 3 tree_a (newline ∷ []) (replicate 8 7) ≡ bad-line ++ 7 ∷ 7 ∷ [])
unfolding first over limits_refusal retired_refusal side_start bytes_of_box key is_nan is_infinite at_most ends_at ends_of has_nan has_infinity is_reversed verdict inside meets box_of box_meets side_refusal window_refusal signed_key little first_of_two second_of_two up boxes children height_above height levels all_boxes boxes_above level_start body_bytes looked found front_refusal size_refusal counts_refusal shape_refusal asked_refusal_by query_refusal_by meeting query_answer_by written decimal value_from all_digits starts_well is_decimal read_number read_signed starts_with_minus cut read_range numbers_read is_readable logged_window is_good_by record_text_by replay_text_by replay_answer_by replay_buffer_by described le box tree_a bad-line
edges = (refl, refl, refl, refl, refl, refl, refl, refl, refl, refl)

-- each kind at its ends, and a reversed window, which is read (the query refuses it)
read :
    (is_readable (described Int32 1) (45 ∷ 50 ∷ 49 ∷ 52 ∷ 55 ∷ 52 ∷ 56 ∷ 51 ∷ 54 ∷ 52 ∷ 56 ∷ 9 ∷ 50 ∷ 49 ∷ 52 ∷ 55 ∷ 52 ∷ 56 ∷ 51 ∷ 54 ∷ 52 ∷ 55 ∷ 9 ∷ 48 ∷ 9 ∷ 48 ∷ []) ≡ true)
    × (is_readable (described Int64 1) (45 ∷ 57 ∷ 50 ∷ 50 ∷ 51 ∷ 51 ∷ 55 ∷ 50 ∷ 48 ∷ 51 ∷ 54 ∷ 56 ∷ 53 ∷ 52 ∷ 55 ∷ 55 ∷ 53 ∷ 56 ∷ 48 ∷ 56 ∷ 9 ∷ 57 ∷ 50 ∷ 50 ∷ 51 ∷ 51 ∷ 55 ∷ 50 ∷ 48 ∷ 51 ∷ 54 ∷ 56 ∷ 53 ∷ 52 ∷ 55 ∷ 55 ∷ 53 ∷ 56 ∷ 48 ∷ 55 ∷ 9 ∷ 49 ∷ 56 ∷ 52 ∷ 52 ∷ 54 ∷ 55 ∷ 52 ∷ 52 ∷ 48 ∷ 55 ∷ 51 ∷ 55 ∷ 48 ∷ 57 ∷ 53 ∷ 53 ∷ 49 ∷ 54 ∷ 49 ∷ 53 ∷ 9 ∷ 49 ∷ 56 ∷ 52 ∷ 52 ∷ 54 ∷ 55 ∷ 52 ∷ 52 ∷ 48 ∷ 55 ∷ 51 ∷ 55 ∷ 48 ∷ 57 ∷ 53 ∷ 53 ∷ 49 ∷ 54 ∷ 49 ∷ 53 ∷ []) ≡ true)
    × (is_readable (described Uint64 1) (48 ∷ 9 ∷ 49 ∷ 56 ∷ 52 ∷ 52 ∷ 54 ∷ 55 ∷ 52 ∷ 52 ∷ 48 ∷ 55 ∷ 51 ∷ 55 ∷ 48 ∷ 57 ∷ 53 ∷ 53 ∷ 49 ∷ 54 ∷ 49 ∷ 53 ∷ 9 ∷ 48 ∷ 9 ∷ 48 ∷ []) ≡ true)
    × (is_readable (described Int32 1) (55 ∷ 9 ∷ 51 ∷ 9 ∷ 48 ∷ 9 ∷ 48 ∷ []) ≡ true)
unfolding over written decimal value_from all_digits starts_well is_decimal read_number read_signed starts_with_minus cut read_range numbers_read is_readable described
read = (refl, refl, refl, refl)

-- one past the ends of each kind and of a logged number, a minus before a uint64 end and before a logged number
past-ends :
    (is_readable (described Int32 1) (45 ∷ 50 ∷ 49 ∷ 52 ∷ 55 ∷ 52 ∷ 56 ∷ 51 ∷ 54 ∷ 52 ∷ 57 ∷ 9 ∷ 48 ∷ 9 ∷ 48 ∷ 9 ∷ 48 ∷ []) ≡ false)
    × (is_readable (described Int32 1) (48 ∷ 9 ∷ 50 ∷ 49 ∷ 52 ∷ 55 ∷ 52 ∷ 56 ∷ 51 ∷ 54 ∷ 52 ∷ 56 ∷ 9 ∷ 48 ∷ 9 ∷ 48 ∷ []) ≡ false)
    × (is_readable (described Int64 1) (48 ∷ 9 ∷ 57 ∷ 50 ∷ 50 ∷ 51 ∷ 51 ∷ 55 ∷ 50 ∷ 48 ∷ 51 ∷ 54 ∷ 56 ∷ 53 ∷ 52 ∷ 55 ∷ 55 ∷ 53 ∷ 56 ∷ 48 ∷ 56 ∷ 9 ∷ 48 ∷ 9 ∷ 48 ∷ []) ≡ false)
    × (is_readable (described Uint64 1) (45 ∷ 49 ∷ 9 ∷ 53 ∷ 9 ∷ 48 ∷ 9 ∷ 48 ∷ []) ≡ false)
    × (is_readable (described Uint64 1) (48 ∷ 9 ∷ 49 ∷ 56 ∷ 52 ∷ 52 ∷ 54 ∷ 55 ∷ 52 ∷ 52 ∷ 48 ∷ 55 ∷ 51 ∷ 55 ∷ 48 ∷ 57 ∷ 53 ∷ 53 ∷ 49 ∷ 54 ∷ 49 ∷ 54 ∷ 9 ∷ 48 ∷ 9 ∷ 48 ∷ []) ≡ false)
    × (is_readable (described Int32 1) (48 ∷ 9 ∷ 48 ∷ 9 ∷ 48 ∷ 9 ∷ 49 ∷ 56 ∷ 52 ∷ 52 ∷ 54 ∷ 55 ∷ 52 ∷ 52 ∷ 48 ∷ 55 ∷ 51 ∷ 55 ∷ 48 ∷ 57 ∷ 53 ∷ 53 ∷ 49 ∷ 54 ∷ 49 ∷ 54 ∷ []) ≡ false)
    × (is_readable (described Int32 1) (48 ∷ 9 ∷ 48 ∷ 9 ∷ 45 ∷ 49 ∷ 9 ∷ 48 ∷ []) ≡ false)
unfolding over written decimal value_from all_digits starts_well is_decimal read_number read_signed starts_with_minus cut read_range numbers_read is_readable described
past-ends = (refl, refl, refl, refl, refl, refl, refl)

-- leading zeros, -0, +1, CR, a blank
not-decimal :
    (is_readable (described Int32 1) (48 ∷ 48 ∷ 9 ∷ 48 ∷ 9 ∷ 48 ∷ 9 ∷ 48 ∷ []) ≡ false)
    × (is_readable (described Int32 1) (48 ∷ 49 ∷ 9 ∷ 50 ∷ 9 ∷ 48 ∷ 9 ∷ 48 ∷ []) ≡ false)
    × (is_readable (described Int32 1) (45 ∷ 48 ∷ 9 ∷ 48 ∷ 9 ∷ 48 ∷ 9 ∷ 48 ∷ []) ≡ false)
    × (is_readable (described Int32 1) (43 ∷ 49 ∷ 9 ∷ 50 ∷ 9 ∷ 48 ∷ 9 ∷ 48 ∷ []) ≡ false)
    × (is_readable (described Int32 1) (49 ∷ 9 ∷ 50 ∷ 9 ∷ 48 ∷ 9 ∷ 48 ∷ 13 ∷ []) ≡ false)
    × (is_readable (described Int32 1) (49 ∷ 32 ∷ 9 ∷ 50 ∷ 9 ∷ 48 ∷ 9 ∷ 48 ∷ []) ≡ false)
unfolding over written decimal value_from all_digits starts_well is_decimal read_number read_signed starts_with_minus cut read_range numbers_read is_readable described
not-decimal = (refl, refl, refl, refl, refl, refl)

-- too few numbers, an empty one at the end, too many, an empty one between, an empty one at the start, blanks for tabs, nothing
other-numbers :
    (is_readable (described Int32 1) (49 ∷ 9 ∷ 50 ∷ 9 ∷ 48 ∷ []) ≡ false)
    × (is_readable (described Int32 1) (49 ∷ 9 ∷ 50 ∷ 9 ∷ 48 ∷ 9 ∷ 48 ∷ 9 ∷ []) ≡ false)
    × (is_readable (described Int32 1) (49 ∷ 9 ∷ 50 ∷ 9 ∷ 48 ∷ 9 ∷ 48 ∷ 9 ∷ 48 ∷ []) ≡ false)
    × (is_readable (described Int32 1) (49 ∷ 9 ∷ 9 ∷ 50 ∷ 9 ∷ 48 ∷ []) ≡ false)
    × (is_readable (described Int32 1) (9 ∷ 49 ∷ 9 ∷ 50 ∷ 9 ∷ 48 ∷ 9 ∷ 48 ∷ []) ≡ false)
    × (is_readable (described Int32 1) (49 ∷ 32 ∷ 50 ∷ 32 ∷ 48 ∷ 32 ∷ 48 ∷ []) ≡ false)
    × (is_readable (described Int32 1) ([]) ≡ false)
unfolding over written decimal value_from all_digits starts_well is_decimal read_number read_signed starts_with_minus cut read_range numbers_read is_readable described
other-numbers = (refl, refl, refl, refl, refl, refl, refl)
