-- What does the description file say? One decimal number a line: D, then 32 or 64 per dimension for its integer kind,
-- N, C, F, S, then the window's minimum and maximum of each dimension in turn.
-- Assumes nothing.
use Rattle.std.specs.Prelude.{ℕ, ◌+◌, ◌-◌, ◌*◌, ◌^◌, Bool, ◌&&◌, ◌||◌, cond, List, leb, eqb, length, Option, Some, None, is_some, unwrap_or}
use Rattle.answers.specs.Runs.{filled}
use Rattle.description.specs.declared.Kind.TheVariants.{Int32, Int64}
use Rattle.description.specs.declared.Dimension.{Dimension}
use Rattle.description.specs.declared.Description.{Description}
use Rattle.boxes.specs.declared.Side.{Side}
use Rattle.description.specs.Limits.{most_dimensions}
use Rattle.description.specs.Description.{description_refusal}
use Rattle.boxes.specs.Boxes.{all, no_side}
use Rattle.decimal.specs.Read.{read_number}
use Rattle.text.specs.Text.{lines, line_at}
use Rattle.ranges.specs.declared.Range.{Range}
use Rattle.range_text.specs.Ranges.{read_range}
use Rattle.report_text.specs.declared.Asked.{Asked}

abbrev pub most_number : ℕ
most_number = 2 ^ 64 - 1

-- an integer kind has 32 or 64 bits
abbrev pub is_width : ℕ → Bool
is_width bits = eqb bits 32 || eqb bits 64

abbrev pub dimension_of : ℕ → Dimension
dimension_of bits = record { kind = cond (eqb bits 64) Int64 Int32 }

module _ (t : List ℕ) where
  -- line i as a number
  abbrev pub number_at : ℕ → Option ℕ
  number_at i = read_number most_number (line_at i t)

  -- D: 0, which is outside its limits, where its line is no number of at most 4
  abbrev pub dimensions_at : ℕ
  dimensions_at = unwrap_or (read_number most_dimensions (line_at 0 t)) 0

  -- the bits of dimension i; 0, which is no width, where its line is no number
  abbrev pub bits_at : ℕ → ℕ
  bits_at i = unwrap_or (number_at (1 + i)) 0

  -- The file with D dimensions. N and C are 0, outside their limits, where they are no numbers.
  module _ (D : ℕ) where
    abbrev pub description_of : Description
    description_of = record {
      dimensions = D;
      kinds = filled (λ i. dimension_of (bits_at i)) (dimension_of 64) D 4;
      fields = unwrap_or (number_at (1 + D)) 0;
      capacity = unwrap_or (number_at (2 + D)) 0;
    }

    -- the window: two lines for each dimension
    abbrev pub window_line : ℕ → ℕ
    window_line i = 5 + D + 2 * i

    abbrev pub window_read : ℕ → Option Range
    window_read i = read_range (dimension_of (bits_at i)).kind (line_at (window_line i) t) (line_at (window_line i + 1) t)

    abbrev pub window_side : ℕ → Side
    window_side i = record { range = unwrap_or (window_read i) no_side.range }

    -- The description is within its limits, every other line is what it has to be, and nothing stands after the last.
    unfoldable pub is_good : Bool
    is_good =
        eqb (description_refusal description_of).number 0
        && all (λ i. is_width (bits_at i)) 0 D
        && is_some (number_at (3 + D))
        && is_some (number_at (4 + D))
        && all (λ i. is_some (window_read i)) 0 D
        && leb (length (lines t)) (window_line D)

    abbrev pub said_with : Asked
    said_with = record {
      description = description_of;
      file_size = unwrap_or (number_at (3 + D)) 0;
      data_size = unwrap_or (number_at (4 + D)) 0;
      window = record { dimensions = D; sides = filled window_side no_side D 4 };
    }

    abbrev pub asked_with : Option Asked
    asked_with = cond is_good (Some said_with) None

  -- what the file says, if it says what it has to
  unfoldable pub asked_of : Option Asked
  asked_of = asked_with dimensions_at
