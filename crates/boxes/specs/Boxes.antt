-- A box is a range per dimension, one after the other.
-- Assumes nothing.
use Rattle.std.specs.Prelude.{ℕ, zero, suc, ◌+◌, Bool, true, not, ◌&&◌, cond, List, [], ◌∷◌, ltb, pos, get_or}
use Rattle.answers.specs.Runs.{over, join}
use Rattle.answers.specs.Checks.{check, otherwise, each}
use Rattle.answers.specs.declared.Refusal.{Refusal}
use Rattle.description.specs.declared.Dimension.{Dimension}
use Rattle.description.specs.Description.{kind_at, side_start}
use Rattle.ranges.specs.declared.Range.{Range}
use Rattle.ranges.specs.declared.Range.TheVariants.{I32, I64}
use Rattle.ranges.specs.Ranges.{Ends, ends_at, ends_of, range_at, inside, meets}
use Rattle.verdicts.specs.Verdicts.{is_finite, stored_refusal, verdict_at}
use Rattle.boxes.specs.declared.Side.{Side}

-- an int64 range 0 to 0, which box places past D hold
abbrev pub no_side : Side
no_side = record { range = I64 (pos 0) (pos 0) }

-- a whole box of such places
abbrev pub no_box : List Side
no_box = no_side ∷ no_side ∷ no_side ∷ no_side ∷ []

-- the range of a side; four sides are never read past their end, where this has what the logic's own reading has
abbrev pub range_in : List Side → ℕ → Range
range_in sides i = (get_or sides i (record { range = I32 (pos 0) (pos 0) })).range

-- every one of a run passes
abbrev pub all : (ℕ → Bool) → ℕ → ℕ → Bool
all = over ◌&&◌ true

-- how many of a run are read up to the first that does not pass, it among them: m of them from k on
unfoldable pub read_to : (ℕ → Bool) → ℕ → ℕ → ℕ
read_to passes k zero = 0
read_to passes k (suc m) = 1 + cond (passes k) (read_to passes (suc k) m) 0

module _ (kinds : List Dimension) where
  -- the range of dimension i in the bytes of a box
  abbrev pub side_at : List ℕ → ℕ → Ends
  side_at bytes i = ends_at (kind_at kinds i) bytes (side_start kinds i)

  -- the box in its bytes, of m dimensions
  unfoldable pub box_of : ℕ → List ℕ → List Side
  box_of m bytes =
      join (λ i. cond (ltb i m) (record { range = range_at (kind_at kinds i) bytes (side_start kinds i) }) no_side ∷ []) 0 4

  -- the ranges of m dimensions in turn: 8, 23 or 9 at the start of the range, in a box that starts at `start`
  unfoldable pub ranges_refusal : ℕ → List ℕ → ℕ → Refusal
  ranges_refusal m bytes start =
      each (λ i. stored_refusal (verdict_at (kind_at kinds i) bytes (side_start kinds i)) (start + side_start kinds i)) 0 m

  -- every end of m dimensions is finite
  unfoldable pub box_finite : ℕ → List ℕ → Bool
  box_finite m bytes = all (λ i. is_finite (side_at bytes i)) 0 m

  -- a box's bytes against another's: inside or equal in each of m dimensions
  unfoldable pub box_inside : ℕ → List ℕ → List ℕ → Bool
  box_inside m bytes outer = all (λ i. inside (side_at bytes i) (side_at outer i)) 0 m

  -- a stored box that starts at `start`: its ranges, and then whether it lies inside another, with a number for that
  unfoldable pub box_refusal : ℕ → List ℕ → List ℕ → ℕ → ℕ → Refusal
  box_refusal m bytes outer number start =
      otherwise (ranges_refusal m bytes start) (check (not (box_inside m bytes outer)) number start)

  -- the box meets the query in each of m dimensions
  unfoldable pub box_meets : ℕ → List ℕ → List Side → Bool
  box_meets m bytes query = all (λ i. meets (side_at bytes i) (ends_of (range_in query i))) 0 m

  -- How many of m dimensions a box test reads that leaves at the first miss. A stored range with NaN misses.
  unfoldable pub box_read : ℕ → List ℕ → List Side → ℕ
  box_read m bytes query = read_to (λ i. meets (side_at bytes i) (ends_of (range_in query i))) 0 m
