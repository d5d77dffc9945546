-- A range is its minimum and then its maximum, of its dimension's own kind.
-- Assumes nothing.
use Rattle.std.specs.Prelude.{ℕ, ◌%◌, ◌^◌, Bool, ◌&&◌, ◌||◌, List}
use Rattle.std.specs.Float.{binary32, binary64}
use Rattle.std.specs.Float.Ieee.{to_bits, of_bits}
use Rattle.std.specs.Int.{w32, w64}
use Rattle.std.proofs.Common.{to_z, of_z}
use Rattle.order.specs.Little.{first_of_two, second_of_two}
use Rattle.description.specs.declared.Kind.{Kind}
use Rattle.description.specs.declared.Kind.TheVariants.{Int32, Int64, Float32, Float64, Uint64}
use Rattle.ranges.specs.declared.Range.{Range}
use Rattle.ranges.specs.declared.Range.TheVariants.{I32, I64, F32, F64, U64}
use Rattle.description.specs.Kinds.{end_bytes, same_kind, is_nan, ordered, at_most}

-- a range by its kind and the bit patterns of its ends
pub record Ends : Type 0 where
  pub kind : Kind
  pub low : ℕ
  pub high : ℕ

abbrev pub ends : Kind → ℕ → ℕ → Ends
ends k a b = record { kind = k; low = a; high = b }

-- the range of a kind at a place of lent bytes, little-endian; one that is not wholly there counts as from 0 to 0
unfoldable pub ends_at : Kind → List ℕ → ℕ → Ends
ends_at k s at = ends k (first_of_two s at (end_bytes k)) (second_of_two s at (end_bytes k))

-- the kind of a range's ends
abbrev pub kind_of : Range → Kind
kind_of (I32 a b) = Int32
kind_of (I64 a b) = Int64
kind_of (F32 a b) = Float32
kind_of (F64 a b) = Float64
kind_of (U64 a b) = Uint64

-- the patterns of a range's ends
unfoldable pub ends_of : Range → Ends
ends_of (I32 a b) = ends Int32 (of_z w32 a) (of_z w32 b)
ends_of (I64 a b) = ends Int64 (of_z w64 a) (of_z w64 b)
ends_of (F32 a b) = ends Float32 (to_bits binary32 a) (to_bits binary32 b)
ends_of (F64 a b) = ends Float64 (to_bits binary64 a) (to_bits binary64 b)
ends_of (U64 a b) = ends Uint64 a b

-- the pattern of an end in a number that may be wider: its lowest bytes
abbrev pub fitted : Kind → ℕ → ℕ
fitted k p = p % 256 ^ end_bytes k

-- the range that patterns stand for
abbrev pub range_of : Kind → ℕ → ℕ → Range
range_of Int32 a b = I32 (to_z w32 a) (to_z w32 b)
range_of Int64 a b = I64 (to_z w64 a) (to_z w64 b)
range_of Float32 a b = F32 (of_bits binary32 a) (of_bits binary32 b)
range_of Float64 a b = F64 (of_bits binary64 a) (of_bits binary64 b)
range_of Uint64 a b = U64 a b

abbrev pub range_at : Kind → List ℕ → ℕ → Range
range_at k s at = range_of k (ends_at k s at).low (ends_at k s at).high

-- a range end is NaN
unfoldable pub has_nan : Ends → Bool
has_nan e = is_nan e.kind e.low || is_nan e.kind e.high

-- Inside means inside or equal.
unfoldable pub inside : Ends → Ends → Bool
inside e outer =
    let kind = ordered e.kind in
    same_kind e.kind outer.kind
    && (at_most kind outer.low e.low && at_most kind e.high outer.high)

-- A range meets the query's when its minimum is at most the query's maximum and the query's minimum at most its
-- maximum. A range with NaN meets nothing.
unfoldable pub meets : Ends → Ends → Bool
meets e query =
    let kind = ordered e.kind in
    same_kind e.kind query.kind
    && (at_most kind e.low query.high && at_most kind query.low e.high)
