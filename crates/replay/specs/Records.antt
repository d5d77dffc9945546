-- What does a line of the log say? Tab-parted decimal numbers: the minimum and the maximum of each dimension in turn, then
-- found and looked.
-- Assumes nothing.
use Rattle.std.specs.Prelude.{ℕ, ◌+◌, ◌*◌, Bool, ◌&&◌, List, Option, leb, eqb, length, is_some, unwrap_or}
use Rattle.answers.specs.Runs.{filled}
use Rattle.description.specs.declared.Dimension.{Dimension}
use Rattle.description.specs.declared.Description.{Description}
use Rattle.description.specs.Description.{kind_at, sides_of}
use Rattle.boxes.specs.declared.Side.{Side}
use Rattle.boxes.specs.declared.Window.{Window}
use Rattle.boxes.specs.Boxes.{all, no_side}
use Rattle.text.specs.Text.{Bytes, tab, parts, part}
use Rattle.ranges.specs.declared.Range.{Range}
use Rattle.range_text.specs.Ranges.{number64, read_range}

-- "above 255 bytes"
abbrev pub most_bytes : ℕ
most_bytes = 255

-- "D minima and maxima in turn": of dimension i the two numbers, and the range that they make in its kind
module _ (kinds : List Dimension) (line : Bytes) where
  abbrev pub minimum_of : ℕ → Bytes
  minimum_of i = part tab (2 * i) line

  abbrev pub maximum_of : ℕ → Bytes
  maximum_of i = part tab (2 * i + 1) line

  abbrev pub dimension_range : ℕ → Option Range
  dimension_range i = read_range (kind_at kinds i) (minimum_of i) (maximum_of i)

  abbrev pub dimension_read : ℕ → Bool
  dimension_read i = is_some (dimension_range i)

  abbrev pub dimension_side : ℕ → Side
  dimension_side i = record { range = unwrap_or (dimension_range i) no_side.range }

module _ (d : Description) (line : Bytes) where
  -- "then found and looked"
  abbrev pub logged_found : Option ℕ
  logged_found = number64 (part tab (2 * sides_of d.dimensions) line)

  abbrev pub logged_looked : Option ℕ
  logged_looked = number64 (part tab (2 * sides_of d.dimensions + 1) line)

  -- so many numbers, and each is read
  unfoldable pub numbers_read : Bool
  numbers_read =
      eqb (length (parts tab line)) (2 * sides_of d.dimensions + 2)
      && all (dimension_read d.kinds line) 0 (sides_of d.dimensions)
      && is_some logged_found
      && is_some logged_looked

  -- not: "a line that can't be read, is above 255 bytes"
  unfoldable pub is_readable : Bool
  is_readable = leb (length line) most_bytes && numbers_read

  unfoldable pub logged_window : Window
  logged_window = record {
    dimensions = d.dimensions;
    sides = filled (dimension_side d.kinds line) no_side (sides_of d.dimensions) 4;
  }
