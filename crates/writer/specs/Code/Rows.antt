-- A level as it stands in the output buffer, at the start of the bytes `rest`: its boxes, and what is made of a row of
-- them. Nothing here is promised to a caller.
-- Assumes nothing.
use Rattle.std.specs.Prelude.{ℕ, ◌+◌, ◌-◌, ◌*◌, ◌<◌, ◌≤◌, min, ◌≡◌, false, List, ◌++◌, length, take, drop}
use Rattle.answers.specs.Runs.{join}
use Rattle.order.specs.Little.{bytes_of}
use Rattle.description.specs.declared.Kind.{Kind}
use Rattle.description.specs.declared.Description.{Description}
use Rattle.description.specs.Kinds.{end_bytes, range_bytes}
use Rattle.description.specs.Description.{kind_at, side_start, sides_of, bytes_of_box}
use Rattle.ranges.specs.declared.Patterns.{Patterns}
use Rattle.ranges.specs.Ranges.{ends_at, has_nan}
use Rattle.boxes.specs.Least.{lowest_at, highest_at, around}
use Rattle.description.specs.Limits.{Sizes}
use Rattle.tree.specs.Shape.{up, body_bytes}
use Rattle.written.specs.Writing.{leaf_refusal}
use Rattle.leaves.specs.Code.Sound.{box_in}

-- Of the boxes from k on, 1 + more of them, the first that has the lowest minimum, and the first that has the highest
-- maximum, where each box has the side at `side`.
module _ (kind : Kind) (rest : List ℕ) (b side k more : ℕ) where
  unfoldable pub lowest_of : ℕ
  lowest_of = lowest_at kind (λ c. (ends_at kind rest (c * b + side)).low) k more

  unfoldable pub highest_of : ℕ
  highest_of = highest_at kind (λ c. (ends_at kind rest (c * b + side)).high) k more

  -- the bytes of both ends
  unfoldable pub side_of : List ℕ
  side_of =
      take (end_bytes kind) (drop (lowest_of * b + side) rest)
      ++ take (end_bytes kind) (drop (highest_of * b + side + end_bytes kind) rest)

-- the patterns of both ends
abbrev pub LeastEnds : Kind → List ℕ → ℕ → ℕ → ℕ → ℕ → Patterns → Type 0
LeastEnds kind rest b side k more r =
    (r.low ≡ (ends_at kind rest (lowest_of kind rest b side k more * b + side)).low)
    × (r.high ≡ (ends_at kind rest (highest_of kind rest b side k more * b + side)).high)

module _ (d : Description) (f : ℕ) where
  -- the parent of row k of a level of so many boxes
  abbrev pub parent_of : List ℕ → ℕ → ℕ → List ℕ
  parent_of rest count k =
      around d.kinds (sides_of d.dimensions) (box_in rest (bytes_of_box d)) (k * f) (min f (count - k * f) - 1)

  -- the level above it
  unfoldable pub level_of : List ℕ → ℕ → ℕ → List ℕ
  level_of rest count parents = bytes_of 8 parents ++ join (parent_of rest count) 0 parents

-- of the boxes from k on, so many, no range has a NaN
abbrev pub NoNan : Description → List ℕ → ℕ → ℕ → Type 0
NoNan d rest k count =
    (i : ℕ) → i < sides_of d.dimensions → (c : ℕ) → k ≤ c → c < k + count
    → has_nan (ends_at (kind_at d.kinds i) rest (c * bytes_of_box d + side_start d.kinds i)) ≡ false

-- one side of a row of boxes that is there
pub record SideRow (kind : Kind) (level : List ℕ) (b side first count : ℕ) : Type 0 where
  pub some : 0 < count
  pub inside : side + range_bytes kind ≤ b
  pub there : (first + count) * b ≤ length level
  pub numbers : (c : ℕ) → first ≤ c → c < first + count → has_nan (ends_at kind level (c * b + side)) ≡ false

-- a row of boxes that is there, from place `start` of a buffer on, past a place that is written to
pub record Row (out : List ℕ) (b start first count at : ℕ) : Type 0 where
  pub some : 0 < count
  pub there : start + (first + count) * b ≤ length out
  pub before : at + b ≤ start

-- two levels, the one below with `count` boxes, which are there, and room for the one above with its count before it
pub record Levels (out : List ℕ) (b f start parents next count : ℕ) : Type 0 where
  pub least : 0 < f
  pub counted : 8 ≤ start
  pub rounded : parents ≡ up f count
  pub before : start + parents * b ≤ next
  pub there : next + count * b ≤ length out

-- what is filled: everything has been checked
pub record Filling (d : Description) (n f : ℕ) (leaves out : List ℕ) : Type 0 where
  pub sizes : Sizes n f
  pub whole : length leaves ≡ n * bytes_of_box d
  pub sound : (k : ℕ) → k < n → (leaf_refusal d n f leaves k).number ≡ 0
  pub room : body_bytes f n (bytes_of_box d) ≤ length out
