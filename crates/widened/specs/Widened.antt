-- The same with float32 ranges as float64: a kind, an end, a range, a box, a window, a description, a tree. Any other
-- kind keeps its bytes.
-- Assumes nothing.
use Rattle.std.specs.Prelude.{ℕ, cond, List, ◌++◌, map, take, drop}
use Rattle.std.specs.Float.{binary32, binary64}
use Rattle.std.specs.Float.Ieee.{to_bits, of_bits}
use Rattle.answers.specs.Runs.{join}
use Rattle.order.specs.Little.{bytes_of}
use Rattle.description.specs.declared.Kind.{Kind}
use Rattle.description.specs.declared.Kind.TheVariants.{Float64}
use Rattle.description.specs.declared.Dimension.{Dimension}
use Rattle.description.specs.declared.Description.{Description}
use Rattle.description.specs.Kinds.{range_bytes, is_float32}
use Rattle.description.specs.Description.{kind_at, side_start, sides_of, bytes_of_box}
use Rattle.ranges.specs.declared.Range.{Range}
use Rattle.ranges.specs.declared.Range.TheVariants.{I32, I64, F32, F64, U64}
use Rattle.ranges.specs.Ranges.{Ends, ends, ends_at}
use Rattle.boxes.specs.declared.Side.{Side}
use Rattle.boxes.specs.declared.Window.{Window}
use Rattle.rtree.specs.Body.{fanout_of, box_at}
use Rattle.written.specs.Body.{body_with}

-- float64 for float32, and any other kind as it is
abbrev pub widened_kind : Kind → Kind
widened_kind k = cond (is_float32 k) Float64 k

-- the float64 pattern of the value that a float32 pattern stands for
unfoldable pub widened_pattern : ℕ → ℕ
widened_pattern p = to_bits binary64 (of_bits binary32 p)

-- the pattern of an end of a kind, in the widened kind
abbrev pub widened_end : Kind → ℕ → ℕ
widened_end k p = cond (is_float32 k) (widened_pattern p) p

abbrev pub widened_ends : Ends → Ends
widened_ends e = ends (widened_kind e.kind) (widened_end e.kind e.low) (widened_end e.kind e.high)

-- a range of a window: the values that the float32 patterns of its ends stand for, which of a float32 is that float32
unfoldable pub widened_range : Range → Range
widened_range (I32 a b) = I32 a b
widened_range (I64 a b) = I64 a b
widened_range (F32 a b) = F64 (of_bits binary32 (to_bits binary32 a)) (of_bits binary32 (to_bits binary32 b))
widened_range (F64 a b) = F64 a b
widened_range (U64 a b) = U64 a b

abbrev pub widened_sides : List Side → List Side
widened_sides sides = map (λ (s : Side). record { range = widened_range s.range }) sides

abbrev pub widened_window : Window → Window
widened_window w = record { dimensions = w.dimensions; sides = widened_sides w.sides }

abbrev pub widened_kinds : List Dimension → List Dimension
widened_kinds kinds = map (λ (x : Dimension). record { kind = widened_kind x.kind }) kinds

abbrev pub widened_description : Description → Description
widened_description d = record {
  dimensions = d.dimensions;
  kinds = widened_kinds d.kinds;
  fields = d.fields;
  capacity = d.capacity;
}

-- the bytes of the range of a kind at a place: both ends of a float32 range as float64, any other range as it is
unfoldable pub widened_side : Kind → List ℕ → ℕ → List ℕ
widened_side k s at =
    cond (is_float32 k)
    (bytes_of 8 (widened_pattern (ends_at k s at).low) ++ bytes_of 8 (widened_pattern (ends_at k s at).high))
    (take (range_bytes k) (drop at s))

-- a box of m dimensions, side by side
unfoldable pub widened_box : List Dimension → ℕ → List ℕ → List ℕ
widened_box kinds m bytes = join (λ i. widened_side (kind_at kinds i) bytes (side_start kinds i)) 0 m

module _ (d : Description) (n : ℕ) (body : List ℕ) where
  -- box k at distance j
  abbrev pub widened_at : ℕ → ℕ → List ℕ
  widened_at j k = widened_box d.kinds (sides_of d.dimensions) (box_at n (bytes_of_box d) body j k)

  -- the same tree: its fanout, its levels, and each of its boxes widened
  abbrev pub widened_body : List ℕ
  widened_body = body_with (fanout_of body) n widened_at
