-- What do the definitions say of the texts that the rules name, as accepted and as refused? All by computation. Assumes nothing.
use mathlib.Core.Path.{◌≡◌, refl}
use mathlib.Core.List.{List, [], ◌∷◌}
use Prim.Native.Nat.{ℕ, ◌-◌, ◌^◌}
use lib.IntN.{pos, negsuc}
use Rattle.std.specs.Prelude.{Option, Some, None}
use Rattle.decimal.specs.Decimal.{written, decimal, value_from, all_digits, starts_well, is_decimal}
use Rattle.decimal.specs.Read.{read_number, starts_with_minus, read_signed, signed32, signed64}
use Rattle.decimal.specs.Write.{put}

-- 0, 7, 10, 65536, 18446744073709551615
writing :
    (decimal 0 ≡ 48 ∷ []) × (decimal 7 ≡ 55 ∷ []) × (decimal 10 ≡ 49 ∷ 48 ∷ [])
    × (decimal 65536 ≡ 54 ∷ 53 ∷ 53 ∷ 51 ∷ 54 ∷ [])
    × (decimal 18446744073709551615
    ≡ 49 ∷ 56 ∷ 52 ∷ 52 ∷ 54 ∷ 55 ∷ 52 ∷ 52 ∷ 48 ∷ 55 ∷ 51 ∷ 55 ∷ 48 ∷ 57 ∷ 53 ∷ 53 ∷ 49 ∷ 54 ∷ 49 ∷ 53 ∷ [])
unfolding decimal written
writing = (refl, refl, refl, refl, refl)

-- 65536 at place 1: in a buffer of six bytes, and in one of five
putting :
    (put (1 ∷ 2 ∷ 3 ∷ 4 ∷ 5 ∷ 6 ∷ []) 1 (decimal 65536) ≡ 1 ∷ 54 ∷ 53 ∷ 53 ∷ 51 ∷ 54 ∷ [])
    × (put (1 ∷ 2 ∷ 3 ∷ 4 ∷ 5 ∷ []) 1 (decimal 65536) ≡ 1 ∷ 2 ∷ 3 ∷ 4 ∷ 5 ∷ [])
unfolding put decimal written
putting = (refl, refl)

-- as an unsigned number of 64 bits
u64 : List ℕ → Option ℕ
u64 = read_number (2 ^ 64 - 1)

-- "0", "7", "10", "18446744073709551615"
accepted :
    (u64 (48 ∷ []) ≡ Some 0) × (u64 (55 ∷ []) ≡ Some 7) × (u64 (49 ∷ 48 ∷ []) ≡ Some 10)
    × (u64 (49 ∷ 56 ∷ 52 ∷ 52 ∷ 54 ∷ 55 ∷ 52 ∷ 52 ∷ 48 ∷ 55 ∷ 51 ∷ 55 ∷ 48 ∷ 57 ∷ 53 ∷ 53 ∷ 49 ∷ 54 ∷ 49 ∷ 53 ∷ [])
    ≡ Some 18446744073709551615)
unfolding u64 read_number is_decimal starts_well all_digits value_from
accepted = (refl, refl, refl, refl)

-- "00", "01", "", "-", "-0", "-5", "+5", " 5", "5 ", "5" and a carriage return, "18446744073709551616"
refused :
    (u64 (48 ∷ 48 ∷ []) ≡ None) × (u64 (48 ∷ 49 ∷ []) ≡ None) × (u64 [] ≡ None) × (u64 (45 ∷ []) ≡ None)
    × (u64 (45 ∷ 48 ∷ []) ≡ None) × (u64 (45 ∷ 53 ∷ []) ≡ None) × (u64 (43 ∷ 53 ∷ []) ≡ None)
    × (u64 (32 ∷ 53 ∷ []) ≡ None) × (u64 (53 ∷ 32 ∷ []) ≡ None) × (u64 (53 ∷ 13 ∷ []) ≡ None)
    × (u64 (49 ∷ 56 ∷ 52 ∷ 52 ∷ 54 ∷ 55 ∷ 52 ∷ 52 ∷ 48 ∷ 55 ∷ 51 ∷ 55 ∷ 48 ∷ 57 ∷ 53 ∷ 53 ∷ 49 ∷ 54 ∷ 49 ∷ 54 ∷ []) ≡ None)
unfolding u64 read_number is_decimal starts_well all_digits value_from
refused = (refl, refl, refl, refl, refl, refl, refl, refl, refl, refl, refl)

-- "-2147483648" and "2147483647" fit 32 bits, "-2147483649" and "2147483648" do not, and both fit 64
signed-ends :
    (signed32 (45 ∷ 50 ∷ 49 ∷ 52 ∷ 55 ∷ 52 ∷ 56 ∷ 51 ∷ 54 ∷ 52 ∷ 56 ∷ []) ≡ Some (negsuc 2147483647))
    × (signed32 (50 ∷ 49 ∷ 52 ∷ 55 ∷ 52 ∷ 56 ∷ 51 ∷ 54 ∷ 52 ∷ 55 ∷ []) ≡ Some (pos 2147483647))
    × (signed32 (45 ∷ 50 ∷ 49 ∷ 52 ∷ 55 ∷ 52 ∷ 56 ∷ 51 ∷ 54 ∷ 52 ∷ 57 ∷ []) ≡ None)
    × (signed32 (50 ∷ 49 ∷ 52 ∷ 55 ∷ 52 ∷ 56 ∷ 51 ∷ 54 ∷ 52 ∷ 56 ∷ []) ≡ None)
    × (signed64 (45 ∷ 50 ∷ 49 ∷ 52 ∷ 55 ∷ 52 ∷ 56 ∷ 51 ∷ 54 ∷ 52 ∷ 57 ∷ []) ≡ Some (negsuc 2147483648))
    × (signed64 (50 ∷ 49 ∷ 52 ∷ 55 ∷ 52 ∷ 56 ∷ 51 ∷ 54 ∷ 52 ∷ 56 ∷ []) ≡ Some (pos 2147483648))
unfolding read_signed starts_with_minus read_number is_decimal starts_well all_digits value_from
signed-ends = (refl, refl, refl, refl, refl, refl)

-- "0" and "-7"; "-0", "-", "--7", "-07" and "+7" are refused
signed-minus :
    (signed32 (48 ∷ []) ≡ Some (pos 0))
    × (signed32 (45 ∷ 55 ∷ []) ≡ Some (negsuc 6))
    × (signed32 (45 ∷ 48 ∷ []) ≡ None)
    × (signed32 (45 ∷ []) ≡ None)
    × (signed32 (45 ∷ 45 ∷ 55 ∷ []) ≡ None)
    × (signed32 (45 ∷ 48 ∷ 55 ∷ []) ≡ None)
    × (signed32 (43 ∷ 55 ∷ []) ≡ None)
unfolding read_signed starts_with_minus read_number is_decimal starts_well all_digits value_from
signed-minus = (refl, refl, refl, refl, refl, refl, refl)
