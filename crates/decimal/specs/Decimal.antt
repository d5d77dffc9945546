-- What is a decimal text, which number does it stand for, and which text does a number have? A text is a list of bytes.
-- Assumes nothing.
use Rattle.std.specs.Prelude.{ℕ, zero, suc, ◌+◌, ◌-◌, ◌*◌, ◌/◌, ◌%◌, Bool, true, not, ◌&&◌, ◌||◌, List, [], ◌∷◌, ◌++◌, leb, ltb, eqb, length, get_or}

-- '0' and '9'
abbrev pub zero_byte : ℕ
zero_byte = 48

abbrev pub nine_byte : ℕ
nine_byte = 57

-- The digits of n, the highest first, by its tenth, rounded down: where that is 0 the one digit, else the digits of the
-- tenth and then the last digit. The first number is the most tenths that are taken.
unfoldable pub written : ℕ → ℕ → ℕ → List ℕ
written zero n tenth = (zero_byte + n) ∷ []
written (suc most) n zero = (zero_byte + n) ∷ []
written (suc most) n (suc tenth) = written most (suc tenth) (suc tenth / 10) ++ ((zero_byte + n % 10) ∷ [])

-- The text of a number: n tenths are enough.
unfoldable pub decimal : ℕ → List ℕ
decimal n = written n n (n / 10)

-- The number that digits stand for, after those that stand for v.
unfoldable pub value_from : ℕ → List ℕ → ℕ
value_from v [] = v
value_from v (b ∷ t) = value_from (10 * v + (b - zero_byte)) t

abbrev pub value_of : List ℕ → ℕ
value_of t = value_from 0 t

abbrev pub is_digit : ℕ → Bool
is_digit b = leb zero_byte b && leb b nine_byte

unfoldable pub all_digits : List ℕ → Bool
all_digits [] = true
all_digits (b ∷ t) = is_digit b && all_digits t

-- No leading zeros (0 alone is fine), and not empty.
unfoldable pub starts_well : List ℕ → Bool
starts_well t = ltb 0 (length t) && (eqb (length t) 1 || not (eqb (get_or t 0 0) zero_byte))

-- Decimal: digits alone, with no leading zeros.
unfoldable pub is_decimal : List ℕ → Bool
is_decimal t = starts_well t && all_digits t
