-- Two trees over the same leaves, held against each other.
-- Assumes nothing.
use Rattle.std.specs.Prelude.{ℕ, ◌*◌, ◌≤◌, ◌<◌, ◌≡◌, true, List, length, take, drop}
use Rattle.description.specs.declared.Description.{Description}
use Rattle.description.specs.Description.{sides_of, bytes_of_box}
use Rattle.boxes.specs.declared.Window.{Window}
use Rattle.boxes.specs.Boxes.{box_inside}
use Rattle.tree.specs.Shape.{level_start}
use Rattle.rtree.specs.Body.{fanout_of, box_at}
use Rattle.query.specs.Query.{query_answer, query_buffer}

-- equal as ranges, as the two zeros are equal: in each dimension each lies inside the other
abbrev pub SameRanges : Description → List ℕ → List ℕ → Type 0
SameRanges d a b =
    (box_inside d.kinds (sides_of d.dimensions) a b ≡ true)
    × (box_inside d.kinds (sides_of d.dimensions) b a ≡ true)

module _ (d : Description) (n : ℕ) (body : List ℕ) where
  -- the bytes of a body's leaf level
  abbrev pub leaves_of : List ℕ
  leaves_of = take (n * bytes_of_box d) (drop (level_start (fanout_of body) n (bytes_of_box d) 0) body)

  -- n leaf boxes that equal the body's
  pub record SameLeaves (leaves : List ℕ) : Type 0 where
    pub whole : length leaves ≡ n * bytes_of_box d
    pub equal : (k : ℕ) → k < n
        → SameRanges d (take (bytes_of_box d) (drop (k * bytes_of_box d) leaves)) (box_at n (bytes_of_box d) body 0 k)

  -- A query of the other body has the same refusal and looks at no more; and it finds the same tiles, in the same order.
  pub record NoMore (other : List ℕ) (w : Window) : Type 0 where
    pub number : (query_answer d n other w).number ≡ (query_answer d n body w).number
    pub place : (query_answer d n other w).place ≡ (query_answer d n body w).place
    pub looked : (query_answer d n other w).looked ≤ (query_answer d n body w).looked
    pub found : (query_answer d n other w).found ≡ (query_answer d n body w).found
    pub buffer : (out : List ℕ) → query_buffer d n other w out ≡ query_buffer d n body w out
