-- The kinds: their bytes, and the order of their bit patterns.
-- Assumes nothing.
use Rattle.std.specs.Prelude.{◌≡◌, ℕ, Result, MatchResult, Bool, true, false, not, ◌&&◌, cond, leb, eqb}
use Rattle.std.specs.Float.{binary32, binary64}
use Rattle.std.specs.Float.Ieee.{nan_bits}
use Rattle.std.specs.Int.{w32, w64}
use Rattle.order.specs.Key.{signed_key, float_key, infinite}
use Rattle.description.specs.declared.Kind.{Kind}
use Rattle.description.specs.declared.UnknownKind.{UnknownKind}
use Rattle.description.specs.declared.Kind.TheVariants.{Int32, Int64, Float32, Float64, Uint64}

-- Box bytes for each kind, per dimension: int32 8, int64 16, float32 8, float64 16, uint64 16.
abbrev pub range_bytes : Kind → ℕ
range_bytes Int32 = 8
range_bytes Int64 = 16
range_bytes Float32 = 8
range_bytes Float64 = 16
range_bytes Uint64 = 16

-- the bytes of one end
abbrev pub end_bytes : Kind → ℕ
end_bytes Int32 = 4
end_bytes Int64 = 8
end_bytes Float32 = 4
end_bytes Float64 = 8
end_bytes Uint64 = 8

-- int32 and int64 are different kinds, and so are int64 and uint64: TileDB's Datatype number of each
abbrev pub datatype : Kind → ℕ
datatype Int32 = 0
datatype Int64 = 1
datatype Float32 = 2
datatype Float64 = 3
datatype Uint64 = 10

-- the kind of a Datatype number; a number that is no kind's has int32, whose own number is another
unfoldable pub kind_of_datatype : ℕ → Kind
kind_of_datatype n =
    cond (eqb n 1) Int64 (cond (eqb n 2) Float32 (cond (eqb n 3) Float64 (cond (eqb n 10) Uint64 Int32)))

abbrev pub is_datatype : ℕ → Bool
is_datatype n = eqb n (datatype (kind_of_datatype n))

-- a number is the Datatype number of the kind that it gives, or of none
abbrev pub IsKindOf : ℕ → Result Kind UnknownKind → Type 0
IsKindOf n r =
    MatchResult r (λ k. (datatype k ≡ n) × (k ≡ kind_of_datatype n))
    (λ e. (e.0 ≡ n) × (is_datatype n ≡ false) × (kind_of_datatype n ≡ Int32))

abbrev pub same_kind : Kind → Kind → Bool
same_kind a b = eqb (datatype a) (datatype b)

-- a float kind: float32, and float64 too where both widths are asked for
abbrev pub float_of : Bool → Kind → Bool
float_of both Int32 = false
float_of both Int64 = false
float_of both Float32 = true
float_of both Float64 = both
float_of both Uint64 = false

-- the kind that dimensions no longer have
abbrev pub is_float32 : Kind → Bool
is_float32 = float_of false

-- a kind that a dense array's dimensions don't have
abbrev pub is_float : Kind → Bool
is_float = float_of true

-- A pattern's key: a natural number, so that one order serves every kind.
unfoldable pub key : Kind → ℕ → ℕ
key Int32 p = signed_key w32 p
key Int64 p = signed_key w64 p
key Float32 p = float_key binary32 p
key Float64 p = float_key binary64 p
key Uint64 p = p

-- a pattern that is a NaN's
unfoldable pub is_nan : Kind → ℕ → Bool
is_nan Int32 p = false
is_nan Int64 p = false
is_nan Float32 p = nan_bits binary32 p
is_nan Float64 p = nan_bits binary64 p
is_nan Uint64 p = false

-- a pattern that is an infinity's
unfoldable pub is_infinite : Kind → ℕ → Bool
is_infinite Int32 p = false
is_infinite Int64 p = false
is_infinite Float32 p = infinite binary32 p
is_infinite Float64 p = infinite binary64 p
is_infinite Uint64 p = false

-- An ordered kind: which patterns are a NaN's, and the key that each other one is ordered by.
pub record Ordered : Type 0 where
  pub nan : ℕ → Bool
  pub key : ℕ → ℕ

-- each kind is one
abbrev pub ordered : Kind → Ordered
ordered k = record { nan = is_nan k; key = key k }

-- neither pattern is a NaN's, and the first is at most the second
unfoldable pub at_most : Ordered → ℕ → ℕ → Bool
at_most o a b = not (o.nan a) && (not (o.nan b) && leb (o.key a) (o.key b))
