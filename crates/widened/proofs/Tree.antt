-- What is in the widened tree? The fanout, the level number and the counts of the old one, and at each place the old
-- box widened (`tree-box`): the body is one that is written with given boxes. So a box meets a widened window where the
-- old one met the window, and the walk looks at as many boxes and finds the same tiles (`tree-looked`, `tree-found`).
-- Asked of the old body is its shape alone.
-- Assumes nothing.
use mathlib.Core.Path.{◌≡◌, sym, ◌∙◌}
use mathlib.Core.List.{List}
use Prim.Native.Nat.{ℕ, ◌≤◌, ◌<◌}
use native.Mathlib.Omega.{arith}
use lib.ListN.{length, length-take, length-drop}
use Rattle.answers.specs.Refusals.{none}
use Rattle.description.specs.declared.Description.{Description}
use Rattle.description.specs.Description.{kind_at, sides_of, bytes_of_box}
use Rattle.ranges.specs.Ranges.{kind_of}
use Rattle.boxes.specs.declared.Window.{Window}
use Rattle.boxes.specs.Boxes.{range_in}
use Rattle.tree.specs.Shape.{boxes, height, body_bytes}
use Rattle.tree.proofs.Places as places
use Rattle.tree.proofs.Root.{height-one}
use Rattle.rtree.specs.Body.{fanout_of, levels_of, stored_count, box_at, shape_refusal}
use Rattle.rtree.proofs.Passed.{Passed}
use Rattle.query.specs.Query.{meeting, looked_at, found_at}
use Rattle.written.proofs.Body.{body-fanout, body-levels, body-length, body-count, body-box, body-shape}
use Rattle.widened.specs.Widened.{widened_description, widened_window, widened_at, widened_body}
use Rattle.widened.proofs.Boxes.{box-length, box-meets}
use Rattle.widened.proofs.Walks.{same-looked, same-found}

module _ (d : Description) (n : ℕ) (body : List ℕ) (p : Passed n (bytes_of_box d) body) where
  abbrev f : ℕ
  f = fanout_of body

  abbrev wide : ℕ
  wide = bytes_of_box (widened_description d)

  abbrev tree : List ℕ
  tree = widened_body d n body

  -- the old box is there whole
  pub old-length : (j k : ℕ) → j ≤ height f n → k < boxes f n j → length (box_at n (bytes_of_box d) body j k) ≡ bytes_of_box d
  old-length j k h l =
      simp (length-take, length-drop) (omega (arith, p.whole, places.box-inside f n (bytes_of_box d) j k h l))

  pub tree-sized : (j k : ℕ) → j ≤ height f n → k < boxes f n j → length (widened_at d n body j k) ≡ wide
  unfolding bytes_of_box
  tree-sized j k h l = box-length d.kinds (sides_of d.dimensions) (box_at n (bytes_of_box d) body j k) (old-length j k h l)

  pub tree-fanout : fanout_of tree ≡ fanout_of body
  tree-fanout = body-fanout f n (widened_at d n body) p.sized

  pub tree-levels : levels_of tree ≡ levels_of body
  tree-levels = body-levels f n (widened_at d n body) p.sized ∙ sym p.leveled

  pub tree-length : length tree ≡ body_bytes f n wide
  tree-length = body-length f n wide (widened_at d n body) tree-sized

  pub tree-count : (j : ℕ) → j ≤ height f n → stored_count n wide tree j ≡ boxes f n j
  tree-count = body-count f n wide (widened_at d n body) tree-sized p.sized

  pub tree-box : (j k : ℕ) → j ≤ height f n → k < boxes f n j → box_at n wide tree j k ≡ widened_at d n body j k
  tree-box = body-box f n wide (widened_at d n body) tree-sized p.sized

  pub tree-root : box_at n wide tree (height f n) 0 ≡ widened_at d n body (height f n) 0
  tree-root = tree-box (height f n) 0 (omega arith) (omega (arith, height-one f n p.sized.least p.sized.some))

  pub tree_shape : shape_refusal n wide tree ≡ none
  tree_shape = body-shape f n wide (widened_at d n body) tree-sized p.sized

  -- with a window of the description's kinds
  module _ (w : Window) (alike : (i : ℕ) → i < sides_of d.dimensions → kind_of (range_in w.sides i) ≡ kind_at d.kinds i) where
    pub tree-meeting : (j k : ℕ) → j ≤ height f n → k < boxes f n j
        → meeting (widened_description d) n tree (widened_window w) j k ≡ meeting d n body w j k
    unfolding meeting bytes_of_box
    tree-meeting j k h l =
        rw (tree-box j k h l)
        (box-meets d.kinds (sides_of d.dimensions) (box_at n (bytes_of_box d) body j k) (old-length j k h l) w.sides alike)

    pub tree-looked : looked_at (widened_description d) n tree (widened_window w) ≡ looked_at d n body w
    tree-looked =
        rw tree-fanout
        (same-looked f n (meeting (widened_description d) n tree (widened_window w)) (meeting d n body w) p.sized.least p.sized.some tree-meeting)

    pub tree-found : found_at (widened_description d) n tree (widened_window w) ≡ found_at d n body w
    tree-found =
        rw tree-fanout
        (same-found f n (meeting (widened_description d) n tree (widened_window w)) (meeting d n body w) p.sized.least p.sized.some tree-meeting)
