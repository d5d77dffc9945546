-- A window that comes as Datatype numbers and bytes.
-- Assumes nothing.
use Rattle.std.specs.Prelude.{ℕ, cond, List, [], ◌∷◌, pos, length}
use Rattle.answers.specs.Runs.{join}
use Rattle.description.specs.declared.Kind.{Kind}
use Rattle.description.specs.declared.Kind.TheVariants.{Int32}
use Rattle.description.specs.declared.Description.{Description}
use Rattle.description.specs.Kinds.{same_kind}
use Rattle.description.specs.Description.{kind_at, sides_of}
use Rattle.ranges.specs.declared.Range.TheVariants.{I32}
use Rattle.boxes.specs.declared.Side.{Side}
use Rattle.boxes.specs.declared.Window.{Window}
use Rattle.boxes.specs.Boxes.{no_side, range_in, box_of}
use Rattle.c_arguments.specs.Described.{is_kind_at, numbered_dimensions}

-- a side of another kind than this one
abbrev pub other_side : Kind → Side
other_side k = cond (same_kind k Int32) no_side (record { range = I32 (pos 0) (pos 0) })

module _ (d : Description) (numbers ends : List ℕ) where
  -- The sides as their bytes say, one after the other: for each number its minimum and then its maximum, little-endian,
  -- of its kind. A range whose bytes are not all there counts 0 to 0, and bytes past the last are ignored.
  abbrev pub written_sides : List Side
  written_sides = box_of (numbered_dimensions numbers) (sides_of (length numbers)) ends

  -- where a number is no kind's, a side of another kind than the description's, so that it is 19 in its turn
  abbrev pub window_side : ℕ → Side
  window_side i =
      cond (is_kind_at numbers i) (record { range = range_in written_sides i }) (other_side (kind_at d.kinds i))

  unfoldable pub window_of_bytes : Window
  window_of_bytes = record { dimensions = length numbers; sides = join (λ i. window_side i ∷ []) 0 4 }
