-- The boxes as they stand in a body: what the code of opening asks of its arguments and hands through. Nothing here is
-- promised to a caller.
-- Assumes nothing.
use Rattle.std.specs.Prelude.{ℕ, ◌+◌, ◌-◌, ◌*◌, ◌≤◌, ◌<◌, min, ◌≡◌, List, length, take, drop}
use Rattle.answers.specs.Refusals as refusals
use Rattle.answers.specs.Checks.{each}
use Rattle.answers.specs.declared.Refusal.{Refusal}
use Rattle.description.specs.declared.Description.{Description}
use Rattle.description.specs.Description.{sides_of, bytes_of_box}
use Rattle.boxes.specs.Boxes.{box_refusal}
use Rattle.tree.specs.Shape.{up, place_in, count_in}

module _ (d : Description) (body : List ℕ) where
  -- the bytes of a box at a place
  abbrev pub bytes_at : ℕ → List ℕ
  bytes_at place = take (bytes_of_box d) (drop place body)

  -- boxes one after the other from `start` on, `count` of them from box `first` on, all against the same
  unfoldable pub run_refusal : List ℕ → ℕ → ℕ → ℕ → ℕ → Refusal
  run_refusal outer number start first count =
      each (λ i. let place = start + i * bytes_of_box d in
      box_refusal d.kinds (sides_of d.dimensions) (bytes_at place) outer number place) first count

  -- the boxes from `next` on, `count` of them, in rows of f, each row against its parent of those from `start` on
  abbrev pub children_of : ℕ → ℕ → ℕ → ℕ → ℕ → Refusal
  children_of f start next count k =
      run_refusal (bytes_at (start + k * bytes_of_box d)) refusals.outside_parent next (k * f) (min f (count - k * f))

  unfoldable pub rows_refusal : ℕ → ℕ → ℕ → ℕ → ℕ → Refusal
  rows_refusal f start parents next count = each (children_of f start next count) 0 parents

-- boxes of b bytes from `start` on, `count` of them from box `first` on, that are there
pub record Run (d : Description) (body : List ℕ) (b start first count : ℕ) : Type 0 where
  pub own : b ≡ bytes_of_box d
  pub some : 0 < b
  pub there : start + (first + count) * b ≤ length body

-- two levels that are there, the second with `count` boxes, and the first with the parents of those
pub record Rows (d : Description) (body : List ℕ) (b f start parents next count : ℕ) : Type 0 where
  pub above : Run d body b start 0 parents
  pub below : Run d body b next 0 count
  pub least : 0 < f
  pub rounded : parents ≡ up f count

-- A level by its distance j from the leaves, and the one below it, as a table of places and counts has them.
module _ (d : Description) (body table : List ℕ) where
  abbrev pub table_refusal : ℕ → ℕ → Refusal
  table_refusal f j =
      rows_refusal d body f (place_in table j) (count_in table j) (place_in table (j - 1)) (count_in table (j - 1))

  pub record TwoLevels (b f j : ℕ) : Type 0 where
    pub some : 0 < j
    pub rows : Rows d body b f (place_in table j) (count_in table j) (place_in table (j - 1)) (count_in table (j - 1))
