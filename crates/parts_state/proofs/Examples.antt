-- Worked cases over tree A: one int32 dimension, f = 2, leaves [0,4] [10,14] and a third, above them [0,14] [20,24], root
-- [0,24], 80 bytes, of which the inner boxes have 24. Worked out from the definitions.
-- Assumes nothing.
use Prim.Native.Nat.{ℕ, zero, suc, ◌/◌, ◌%◌}
use mathlib.Core.Path.{◌≡◌, refl}
use mathlib.Core.List.{List, [], ◌∷◌, ◌++◌}
use lib.ListN.{take, replicate}
use Rattle.answers.specs.Checks.{first}
use Rattle.answers.specs.Runs.{over}
use Rattle.order.specs.Key.{signed_key}
use Rattle.order.specs.Little.{little, first_of_two, second_of_two}
use Rattle.description.specs.declared.Description.{Description}
use Rattle.description.specs.declared.Kind.TheVariants.{Int32}
use Rattle.description.specs.Description.{limits_refusal, retired_refusal, side_start, bytes_of_box}
use Rattle.description.specs.Kinds.{key, is_nan, is_infinite, at_most}
use Rattle.ranges.specs.Ranges.{ends_at, ends_of, has_nan, inside}
use Rattle.verdicts.specs.Verdicts.{has_infinity, is_reversed, verdict}
use Rattle.boxes.specs.Boxes.{ranges_refusal, box_inside, box_refusal}
use Rattle.footer.specs.Fields.{no_flag, flag_is, number_outside, file_offsets_refusal, start, footer_bytes}
use Rattle.footer.specs.Checks.{entry_refusal}
use Rattle.tree.specs.Shape.{up, boxes, height_above, height, levels, all_boxes, boxes_above, level_start, body_bytes}
use Rattle.rtree.specs.Body.{front_refusal, size_refusal, counts_refusal, shape_refusal}
use Rattle.rtree.specs.Opening.{root_refusal, inner_refusal, level_refusal, boxes_refusal, body_refusal, open_answer_by}
use Rattle.parts_state.specs.Parts.{front_shown, counts_shown, shown_refusal, parts_answer, parts_answer_by}

-- a number as little-endian bytes
le : ℕ → ℕ → List ℕ
le zero x = []
le (suc m) x = x % 256 ∷ le m (x / 256)

described : Description
described = record { dimensions = 1; kinds = replicate 4 (record { kind = Int32 }); fields = 1; capacity = 32 }

box : ℕ → ℕ → List ℕ
box a b = le 4 a ++ le 4 b

footer_a : List ℕ
footer_a = le 4 21 ++ le 8 4 ++ le 4 0 ++ 0 ∷ 0 ∷ box 0 24 ++ le 8 3 ++ le 8 5 ++ 0 ∷ 0 ∷ replicate 112 0 ++ le 8 156

-- with the count of the leaves and the third leaf as given
tree_a : ℕ → List ℕ → List ℕ
tree_a count third =
    le 4 2 ++ le 4 3 ++ le 8 1 ++ box 0 24 ++ le 8 2 ++ box 0 14 ++ box 20 24 ++ le 8 count ++ box 0 4 ++ box 10 14 ++ third

-- number, place, which and tiles of a stated length, a room and the bytes received
told : ℕ → ℕ → List ℕ → List ℕ
told stated room got =
    let r = parts_answer described 1000 footer_a stated room got in
    r.number ∷ r.place ∷ r.which ∷ r.tiles ∷ []

pub worked : List (List ℕ)
worked =
    told 80 24 (tree_a 3 (box 20 24))
    ∷ told 80 23 (tree_a 3 (box 20 24))
    ∷ told 81 24 (take 4 (tree_a 3 (box 20 24)))
    ∷ told 80 23 (take 4 (tree_a 3 (box 20 24)))
    ∷ told 80 24 (take 4 (tree_a 3 (box 20 24)))
    ∷ told 5 24 (take 3 (tree_a 3 (box 20 24)))
    ∷ told 80 24 (take 79 (tree_a 3 (box 20 24)))
    ∷ told 80 24 (tree_a 3 (box 20 24) ++ 1 ∷ [])
    ∷ told 80 24 (tree_a 3 (box 20 25))
    ∷ told 80 24 (take 79 (tree_a 3 (box 20 25)))
    ∷ told 80 24 (tree_a 4 (box 20 25))
    ∷ told 80 24 (take 56 (tree_a 4 (box 20 25)))
    ∷ told 80 24 (take 55 (tree_a 4 (box 20 25)))
    ∷ told 80 24 []
    ∷ []

pub stated : List (List ℕ)
stated =
    (0 ∷ 0 ∷ 0 ∷ 3 ∷ [])
    ∷ (21 ∷ 0 ∷ 0 ∷ 0 ∷ [])
    ∷ (2 ∷ 81 ∷ 1 ∷ 0 ∷ [])
    ∷ (21 ∷ 0 ∷ 0 ∷ 0 ∷ [])
    ∷ (2 ∷ 4 ∷ 1 ∷ 0 ∷ [])
    ∷ (2 ∷ 5 ∷ 1 ∷ 0 ∷ [])
    ∷ (2 ∷ 79 ∷ 1 ∷ 0 ∷ [])
    ∷ (2 ∷ 80 ∷ 1 ∷ 0 ∷ [])
    ∷ (15 ∷ 72 ∷ 1 ∷ 0 ∷ [])
    ∷ (2 ∷ 79 ∷ 1 ∷ 0 ∷ [])
    ∷ (14 ∷ 48 ∷ 1 ∷ 0 ∷ [])
    ∷ (14 ∷ 48 ∷ 1 ∷ 0 ∷ [])
    ∷ (2 ∷ 55 ∷ 1 ∷ 0 ∷ [])
    ∷ (2 ∷ 0 ∷ 1 ∷ 0 ∷ [])
    ∷ []

pub in_parts : worked ≡ stated
unfolding first over ranges_refusal box_inside box_refusal limits_refusal retired_refusal side_start bytes_of_box key is_nan is_infinite at_most ends_at ends_of has_nan has_infinity is_reversed verdict inside no_flag flag_is number_outside file_offsets_refusal entry_refusal start footer_bytes signed_key little first_of_two second_of_two front_refusal size_refusal counts_refusal shape_refusal root_refusal inner_refusal level_refusal boxes_refusal body_refusal open_answer_by up boxes height_above height levels all_boxes boxes_above level_start body_bytes front_shown counts_shown shown_refusal parts_answer_by le described box footer_a tree_a told worked stated
in_parts = refl
