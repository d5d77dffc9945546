-- Which number is read from a text, and from which texts is one read?
-- Assumes nothing.
use Rattle.std.specs.Prelude.{ℕ, zero, suc, ◌+◌, ◌-◌, ◌*◌, ◌^◌, Bool, cond, ◌&&◌, List, ◌∷◌, leb, eqb, get_or, drop, ℤ, pos, negsuc, Option, Some, None}
use Rattle.decimal.specs.Decimal.{decimal, value_of, is_digit, is_decimal, zero_byte}

-- A fit: the number is at most the most.
abbrev pub if_fits : ℕ → Bool → ℕ → Option ℕ
if_fits most well n = cond (well && leb n most) (Some n) None

-- The whole text is decimal, and its number fits.
unfoldable pub read_number : ℕ → List ℕ → Option ℕ
read_number most t = if_fits most (is_decimal t) (value_of t)

-- One more byte, after those that stand for v.
unfoldable pub read_next : ℕ → ℕ → ℕ → Option ℕ
read_next most v b = if_fits most (is_digit b) (10 * v + (b - zero_byte))

-- '-'
abbrev pub minus_byte : ℕ
minus_byte = 45

unfoldable pub starts_with_minus : List ℕ → Bool
starts_with_minus t = eqb (get_or t 0 0) minus_byte

-- A minus only before a nonzero number.
abbrev pub below_zero : Option ℕ → Option ℤ
below_zero None = None
below_zero (Some zero) = None
below_zero (Some (suc n)) = Some (negsuc n)

abbrev pub from_zero : Option ℕ → Option ℤ
from_zero None = None
from_zero (Some n) = Some (pos n)

-- A fit in two's complement, half of whose patterns stand for the negative numbers, from -half on: the others are below
-- half.
unfoldable pub read_signed : ℕ → List ℕ → Option ℤ
read_signed half t = cond (starts_with_minus t) (below_zero (read_number half (drop 1 t))) (from_zero (read_number (half - 1) t))

-- The text of a whole number.
abbrev pub signed_text : ℤ → List ℕ
signed_text (pos n) = decimal n
signed_text (negsuc n) = minus_byte ∷ decimal (suc n)

-- At 32 bits, and at 64.
abbrev pub signed32 : List ℕ → Option ℤ
signed32 t = read_signed (2 ^ 31) t

abbrev pub signed64 : List ℕ → Option ℤ
signed64 t = read_signed (2 ^ 63) t
