-- The checked examples of the rules: all of them as a single list, worked out from the definitions.
-- Assumes nothing.
use Prim.Native.Nat.{ℕ, zero, suc, ◌/◌, ◌%◌}
use mathlib.Core.Path.{◌≡◌, refl}
use mathlib.Core.List.{List, [], ◌∷◌, ◌++◌}
use lib.IntN.{pos}
use lib.ListN.{length, take, replicate}
use Rattle.answers.specs.declared.Refusal.{Refusal}
use Rattle.description.specs.declared.Description.{Description}
use Rattle.description.specs.declared.Kind.TheVariants.{Int32}
use Rattle.ranges.specs.declared.Range.TheVariants.{I32}
use Rattle.boxes.specs.declared.Window.{Window}
use Rattle.answers.specs.Checks.{first}
use Rattle.answers.specs.Runs.{over}
use Rattle.boxes.specs.Boxes.{box_of, ranges_refusal, box_inside, box_refusal, box_meets}
use Rattle.description.specs.Description.{limits_refusal, retired_refusal, side_start, bytes_of_box}
use Rattle.description.specs.Kinds.{key, is_nan, is_infinite, at_most}
use Rattle.ranges.specs.Ranges.{ends_at, ends_of, has_nan, inside, meets}
use Rattle.verdicts.specs.Verdicts.{has_infinity, is_reversed, verdict}
use Rattle.boxes.specs.Windows.{side_refusal, window_refusal}
use Rattle.footer.specs.Answer.{total_cells, entries, refused_footer, accepted_footer, footer_answer, entry_answer}
use Rattle.footer.specs.Fields.{no_flag, flag_is, number_outside, file_offsets_refusal, start, footer_bytes}
use Rattle.footer.specs.Checks.{entry_refusal}
use Rattle.lists.specs.Lists.{list_refusal_by, entries_refusal_by}
use Rattle.lists.specs.Offsets.{offsets_refusal, offsets_refusal_by}
use Rattle.order.specs.Key.{signed_key}
use Rattle.order.specs.Little.{little, first_of_two, second_of_two}
use Rattle.rtree.specs.Body.{front_refusal, size_refusal, counts_refusal, shape_refusal}
use Rattle.rtree.specs.Opening.{root_refusal, inner_refusal, level_refusal, boxes_refusal, body_refusal, open_answer, open_answer_by}
use Rattle.query.specs.Query.{asked_refusal_by, query_refusal_by, meeting, query_answer, query_answer_by, query_buffer, query_buffer_by}
use Rattle.tree.specs.Shape.{up, boxes, children, height_above, height, levels, all_boxes, boxes_above, level_start, body_bytes}
use Rattle.tree.specs.Walk.{looked, found}

-- a number as little-endian bytes
le : ℕ → ℕ → List ℕ
le zero x = []
le (suc m) x = x % 256 ∷ le m (x / 256)

-- a description of int32 dimensions, one entry in each per-field list, 32 cells a tile
described : ℕ → Description
described d = record { dimensions = d; kinds = replicate 4 (record { kind = Int32 }); fields = 1; capacity = 32 }

-- a footer for it: version 21, a name of four bytes, a domain, three tiles, the last with five cells, offsets 0
footer_of : ℕ → List ℕ → List ℕ
footer_of length domain =
    le 4 21 ++ le 8 4 ++ le 4 0 ++ 0 ∷ 0 ∷ domain ++ le 8 3 ++ le 8 5 ++ 0 ∷ 0 ∷ replicate 112 0 ++ le 8 length

-- tree A: f = 2, leaves [0,4] [10,14] and a third, above them [0,14] [20,24], root [0,24]
box : ℕ → ℕ → List ℕ
box a b = le 4 a ++ le 4 b

tree_a : List ℕ → List ℕ
tree_a third =
    le 4 2 ++ le 4 3 ++ le 8 1 ++ box 0 24 ++ le 8 2 ++ box 0 14 ++ box 20 24 ++ le 8 3 ++ box 0 4 ++ box 10 14 ++ third

window : ℕ → ℕ → Window
window a b = record { dimensions = 1; sides = replicate 4 (record { range = I32 (pos a) (pos b) }) }

-- number, place, found and looked of a query on tree A, and a buffer of two places
asked : ℕ → ℕ → List ℕ
asked a b =
    let r = query_answer (described 1) 3 (tree_a (box 20 24)) (window a b) in
    r.number ∷ r.place ∷ r.found ∷ r.looked ∷ query_buffer (described 1) 3 (tree_a (box 20 24)) (window a b) (77 ∷ 77 ∷ [])

-- number, place and which of opening
opened : List ℕ → List ℕ
opened third =
    let r = open_answer (described 1) 1000 (footer_of 156 (box 0 24)) (tree_a third) in
    r.number ∷ r.place ∷ r.which ∷ r.tiles ∷ r.fanout ∷ r.levels ∷ []

told : Refusal → List ℕ
told r = r.number ∷ r.place ∷ []

-- a body of so many bytes for n = 1: fanout 2, one level, its count, and zeros
sized : ℕ → List ℕ
sized m = told (shape_refusal 1 8 (take m (le 4 2 ++ le 4 1 ++ le 8 1 ++ replicate 16 0)))

worked : List (List ℕ)
worked =
    asked 12 21
    ∷ asked 5 9
    ∷ asked 30 40
    ∷ asked 4 4
    ∷ opened (box 20 24)
    ∷ opened (box 20 25)
    ∷ (levels 2 1 ∷ levels 10 10 ∷ levels 10 11 ∷ levels 2 65536 ∷ all_boxes 2 65536 ∷ [])
    ∷ sized 24
    ∷ sized 23
    ∷ sized 25
    ∷ (footer_bytes (described 2) (footer_of 164 (box 0 9 ++ box 0 9)) ∷ length (footer_of 164 (box 0 9 ++ box 0 9)) ∷ (footer_answer (described 2) 1000 (footer_of 164 (box 0 9 ++ box 0 9))).length ∷ [])
    ∷ told (offsets_refusal 3 300 (le 8 3 ++ le 8 0 ++ le 8 100 ++ le 8 300))
    ∷ (total_cells 3 5 32 ∷ [])
    ∷ []

stated : List (List ℕ)
stated =
    -- A, [12, 21]: tiles 1, 2; looked 6
    (0 ∷ 0 ∷ 2 ∷ 6 ∷ 1 ∷ 2 ∷ [])
    -- A, [5, 9]: none; looked 5
    ∷ (0 ∷ 0 ∷ 0 ∷ 5 ∷ 77 ∷ 77 ∷ [])
    -- A, [30, 40]: none; looked 1
    ∷ (0 ∷ 0 ∷ 0 ∷ 1 ∷ 77 ∷ 77 ∷ [])
    -- A, [4, 4]: tile 0
    ∷ (0 ∷ 0 ∷ 1 ∷ 5 ∷ 0 ∷ 77 ∷ [])
    -- A is accepted; with the third leaf made [20,25]: 15 at place 72
    ∷ (0 ∷ 0 ∷ 0 ∷ 3 ∷ 2 ∷ 3 ∷ [])
    ∷ (15 ∷ 72 ∷ 1 ∷ 0 ∷ 0 ∷ 0 ∷ [])
    -- n = 1: one level. n = 10, f = 10: two. n = 11, f = 10: three. n = 65,536, f = 2: 17 levels, 131,071 boxes
    ∷ (1 ∷ 2 ∷ 3 ∷ 17 ∷ 131071 ∷ [])
    -- One int32 dimension, n = 1: 24 bytes accepted in size, 23 and 25 refused with 2
    ∷ (0 ∷ 0 ∷ [])
    ∷ (2 ∷ 23 ∷ [])
    ∷ (2 ∷ 25 ∷ [])
    -- D = 2 of int32, s = 4, N = 1: footer 172 bytes, length field 164
    ∷ (172 ∷ 172 ∷ 164 ∷ [])
    -- Offsets 0, 100, 300 with S = 300: 18 at place 24
    ∷ (18 ∷ 24 ∷ [])
    -- n = 3, C = 32, last 5: 69 cells
    ∷ (69 ∷ [])
    ∷ []

starred : worked ≡ stated
unfolding first over box_of ranges_refusal box_inside box_refusal box_meets limits_refusal retired_refusal side_start bytes_of_box key is_nan is_infinite at_most ends_at ends_of has_nan has_infinity is_reversed verdict inside meets side_refusal window_refusal total_cells entries refused_footer accepted_footer entry_answer no_flag flag_is number_outside file_offsets_refusal entry_refusal start footer_bytes list_refusal_by entries_refusal_by offsets_refusal_by signed_key little first_of_two second_of_two front_refusal size_refusal counts_refusal shape_refusal root_refusal inner_refusal level_refusal boxes_refusal body_refusal open_answer_by asked_refusal_by query_refusal_by meeting query_answer_by query_buffer_by up boxes children height_above height levels all_boxes boxes_above level_start body_bytes looked found le described footer_of box tree_a window asked opened told sized worked stated
starred = refl
