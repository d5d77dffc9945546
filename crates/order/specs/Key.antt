-- In which order do two bit patterns stand? In that of their keys, which are whole numbers. Assumes nothing.
use Rattle.std.specs.Prelude.{ℕ, ◌+◌, ◌-◌, ◌*◌, ◌%◌, ◌^◌, Bool, not, ◌&&◌, cond, leb, eqb}
use Rattle.std.specs.Float.{Format}
use Rattle.std.specs.Float.Ieee.{hid, ones, top, nan_bits}
use Rattle.std.specs.Int.{Width}
use mir.Val.{bits, hbits}

-- A magnitude m on one side of the middle c: below it where the sign s is set, else above it.
abbrev pub about : ℕ → Bool → ℕ → ℕ
about c s m = cond s (c - m) (c + m)

-- "Floats are ordered by IEEE 754 comparison: no NaN, both zeros equal, infinities allowed. Define this order from the
-- bit patterns as whole numbers." The sign is the highest bit, of weight `top f`; both zeros have the key `top f`.
unfoldable pub float_key : Format → ℕ → ℕ
float_key f p = about (top f) (leb (top f) p) (p % top f)

-- Neither pattern is a NaN's, and the first is at most the second.
unfoldable pub float_at_most : Format → ℕ → ℕ → Bool
float_at_most f a b = not (nan_bits f a) && (not (nan_bits f b) && leb (float_key f a) (float_key f b))

-- A pattern is an infinity's, of either sign: without the sign, the exponent's field, of weight `hid f`, is all ones,
-- and the digits below it are 0.
unfoldable pub infinite : Format → ℕ → Bool
infinite f p = eqb (p % top f) (ones f * hid f)

-- Two's complement: the patterns of the negative numbers follow those of the others, and adding half of all the
-- patterns, modulo all of them, puts them in front.
unfoldable pub signed_key : Width → ℕ → ℕ
signed_key w p = (p + 2 ^ hbits w) % 2 ^ bits w

-- The first is at most the second.
unfoldable pub signed_at_most : Width → ℕ → ℕ → Bool
signed_at_most w a b = leb (signed_key w a) (signed_key w b)
