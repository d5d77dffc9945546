-- The converter: an old description, footer and body, and the same tree with its float32 ranges as float64.
-- Assumes nothing.
use Rattle.std.specs.Prelude.{ℕ, ◌≤◌, ◌<◌, ◌≡◌, List, length}
use Rattle.description.specs.declared.Description.{Description}
use Rattle.description.specs.Description.{sides_of, bytes_of_box}
use Rattle.description.specs.Rules.{before}
use Rattle.boxes.specs.declared.Window.{Window}
use Rattle.tree.specs.Shape.{boxes, height}
use Rattle.footer.specs.Fields.{tiles_of}
use Rattle.rtree.specs.Body.{fanout_of, levels_of, stored_count, box_at}
use Rattle.rtree.specs.declared.Opened.{Opened}
use Rattle.rtree.specs.Opening.{open_answer_by}
use Rattle.query.specs.Query.{query_answer, query_answer_by, query_buffer, query_buffer_by}
use Rattle.written.specs.Opened.{Opens}
use Rattle.widened.specs.declared.Converted.{Converted}
use Rattle.widened.specs.Answered.{answered, laid_in}
use Rattle.widened.specs.Widened.{widened_description, widened_window, widened_box, widened_body}

-- what is written
abbrev pub converted : Description → List ℕ → List ℕ → List ℕ
converted d footer body = widened_body d (tiles_of d footer) body

module _ (d : Description) (F : ℕ) (footer body : List ℕ) where
  -- what opening said just before float32 was retired
  abbrev pub told_before : Opened
  told_before = open_answer_by before d F footer body

  -- That; then 26, place 0, exactly if the output buffer is shorter than the body. Success tells the body's length.
  unfoldable pub convert_answer : ℕ → Converted
  convert_answer = answered told_before.number told_before.place told_before.which (converted d footer body)

  -- The same without an output buffer: as if there were room.
  unfoldable pub convert_length : Converted
  convert_length = convert_answer (length (converted d footer body))

  -- A refusal writes nothing; bytes past the body stay.
  unfoldable pub convert_buffer : List ℕ → List ℕ
  convert_buffer = laid_in told_before.number told_before.place told_before.which (converted d footer body)

-- The same tree with those ranges as float64.
pub record SameTree (d : Description) (n : ℕ) (body written : List ℕ) : Type 0 where
  -- fanout, level number and counts
  pub fanout : fanout_of written ≡ fanout_of body
  pub levels : levels_of written ≡ levels_of body
  pub counts : (j : ℕ) → j ≤ height (fanout_of body) n
      → stored_count n (bytes_of_box (widened_description d)) written j ≡ stored_count n (bytes_of_box d) body j
  -- each box, side by side
  pub box : (j k : ℕ) → j ≤ height (fanout_of body) n → k < boxes (fanout_of body) n j
      → box_at n (bytes_of_box (widened_description d)) written j k
      ≡ widened_box d.kinds (sides_of d.dimensions) (box_at n (bytes_of_box d) body j k)
  -- Each old query that wasn't refused, widened the same way, finds the same tiles with the same looked-at number.
  pub query : (w : Window) → (query_answer_by before d n body w).number ≡ 0
      → (query_answer (widened_description d) n written (widened_window w) ≡ query_answer_by before d n body w)
      × ((out : List ℕ)
      → query_buffer (widened_description d) n written (widened_window w) out ≡ query_buffer_by before d n body w out)
  -- Under the widened description it is accepted as a tree that is written from its leaves.
  pub opens : Opens (widened_description d) n (fanout_of body) written
