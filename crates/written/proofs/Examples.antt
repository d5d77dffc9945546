-- Worked cases, by computation from the definitions: tree A of the rules written from its leaves, both zeros in each
-- order, and each refusal of the numbers.
-- Assumes nothing.
use Prim.Native.Nat.{ℕ}
use mathlib.Core.Path.{◌≡◌, refl}
use mathlib.Core.List.{List, [], ◌∷◌, ◌++◌}
use lib.ListN.{length, replicate}
use Rattle.description.specs.declared.Kind.{Kind}
use Rattle.description.specs.declared.Kind.TheVariants.{Int32, Float32, Float64}
use Rattle.description.specs.declared.Description.{Description}
use Rattle.answers.specs.Runs.{over}
use Rattle.answers.specs.Refusals.{refusal, none}
use Rattle.answers.specs.Checks.{first}
use Rattle.order.specs.Key.{signed_key, float_key}
use Rattle.order.specs.Little.{little, first_of_two, second_of_two, bytes_of}
use Rattle.description.specs.Description.{limits_refusal, retired_refusal, side_start, bytes_of_box}
use Rattle.description.specs.Kinds.{key, is_nan, is_infinite}
use Rattle.description.specs.Rules.{earlier}
use Rattle.ranges.specs.Ranges.{ends_at, has_nan}
use Rattle.verdicts.specs.Verdicts.{has_infinity, is_reversed, verdict}
use Rattle.boxes.specs.Boxes.{ranges_refusal}
use Rattle.boxes.specs.Least.{first_best, least_side, around}
use Rattle.tree.specs.Shape.{up, boxes, children, height_above, height, levels, all_boxes, body_bytes}
use Rattle.written.specs.Body.{level_bytes, levels_down, body_with, written_box, written_body}
use Rattle.written.specs.Writing.{sizes_refusal, sizes_refusal_by, length_answer, length_answer_by, write_refusal_by, write_answer, write_answer_by, write_buffer, write_buffer_by}

-- one dimension of a kind, one entry in each per-field list, 32 cells a tile
one : Kind → Description
one k = record { dimensions = 1; kinds = replicate 4 (record { kind = k }); fields = 1; capacity = 32 }

box : ℕ → ℕ → List ℕ
box a b = bytes_of 4 a ++ bytes_of 4 b

-- f = 2, leaves [0,4] [10,14] [20,24]
leaves_a : List ℕ
leaves_a = box 0 4 ++ box 10 14 ++ box 20 24

-- above them [0,14] [20,24], root [0,24]; 80 bytes
tree_a : List ℕ
tree_a =
    bytes_of 4 2 ++ bytes_of 4 3 ++ bytes_of 8 1 ++ box 0 24
    ++ bytes_of 8 2 ++ box 0 14 ++ box 20 24
    ++ bytes_of 8 3 ++ box 0 4 ++ box 10 14 ++ box 20 24

tree-a : (written_body (one Int32) 3 2 leaves_a ≡ tree_a) × (length tree_a ≡ 80) × ((length_answer (one Int32) 3 2).length ≡ 80)
unfolding one box leaves_a tree_a bytes_of little first_of_two second_of_two first over signed_key key ends_at limits_refusal retired_refusal side_start bytes_of_box first_best least_side around up boxes children height_above height levels all_boxes body_bytes level_bytes levels_down body_with written_box sizes_refusal_by length_answer_by
tree-a = (refl, refl, refl)

-- exactly its room, and one byte less; a byte past the body stays
room : (write_answer (one Int32) 3 2 leaves_a 80 ≡ record { number = 0; place = 0; length = 80 })
    × (write_answer (one Int32) 3 2 leaves_a 79 ≡ record { number = 26; place = 0; length = 0 })
    × (write_buffer (one Int32) 3 2 leaves_a (replicate 81 7) ≡ tree_a ++ 7 ∷ [])
    × (write_buffer (one Int32) 3 2 leaves_a (replicate 79 7) ≡ replicate 79 7)
unfolding one box leaves_a tree_a bytes_of little first_of_two second_of_two first over signed_key key is_nan is_infinite has_nan has_infinity is_reversed verdict ends_at ranges_refusal limits_refusal retired_refusal side_start bytes_of_box first_best least_side around up boxes children height_above height levels level_bytes levels_down body_with written_box sizes_refusal_by write_refusal_by write_answer_by write_buffer_by
room = (refl, refl, refl, refl)

-- the patterns of -0.0 and of 0.0: between them the first child's bytes, for the minimum and for the maximum
root : ℕ → ℕ → List ℕ
root a b = written_box (one Float32) 2 2 (box a a ++ box b b) 1 0

zeros : (root 2147483648 0 ≡ box 2147483648 2147483648) × (root 0 2147483648 ≡ box 0 0)
unfolding one box root bytes_of little first_of_two second_of_two over float_key key ends_at side_start bytes_of_box first_best least_side around boxes children written_box
zeros = (refl, refl)

-- n = 0, f = 1, a leaf too few, a leaf whose minimum is above its maximum, that one in no room
refusals : (write_answer (one Int32) 0 1 [] 0 ≡ record { number = 10; place = 0; length = 0 })
    × (write_answer (one Int32) 3 1 leaves_a 0 ≡ record { number = 13; place = 0; length = 0 })
    × (write_answer (one Int32) 4 2 leaves_a 0 ≡ record { number = 2; place = 24; length = 0 })
    × (write_answer (one Int32) 3 2 (box 0 4 ++ box 14 10 ++ box 20 24) 0 ≡ record { number = 9; place = 8; length = 0 })
unfolding one box leaves_a bytes_of little first_of_two second_of_two first over signed_key key is_nan is_infinite has_nan has_infinity is_reversed verdict ends_at ranges_refusal limits_refusal retired_refusal side_start bytes_of_box written_box sizes_refusal_by write_refusal_by write_answer_by
refusals = (refl, refl, refl, refl)

-- by the earlier rules 65,536 tiles and no more, and no 28; by this library's 28 before 10
limits : (sizes_refusal_by earlier (one Float32) 65_536 2 ≡ none)
    × (sizes_refusal_by earlier (one Float32) 65_537 2 ≡ refusal 10 0)
    × (sizes_refusal (one Float64) 65_537 2 ≡ none)
    × (sizes_refusal (one Float32) 0 2 ≡ refusal 28 0)
unfolding one first over limits_refusal retired_refusal sizes_refusal_by
limits = (refl, refl, refl, refl)
