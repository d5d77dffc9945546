-- The bytes of a number in two parts: the first goes by the remainder and the second by the quotient. Laws over the
-- number of bytes.
-- Assumes nothing.
use mathlib.Core.Path.{◌≡◌, refl, sym, ◌∙◌}
use mathlib.Core.List.{◌++◌}
use Prim.Native.Nat.{ℕ, zero, suc, ◌+◌, ◌*◌, ◌/◌, ◌%◌, ◌^◌}
use native.Mathlib.Nat.{zero-add, suc-add, mul_assoc, pow-succ', div-one, div-div-eq-div-mul, mod-add-div, add-mul-mod_self_left, add-mul-div_left}
use native.Mathlib.Omega.{arith}
use Rattle.order.specs.Little.{bytes_of}

-- what is above the lowest m bytes makes no difference to them
bytes_low : (m y z : ℕ) → bytes_of m (y + 256 ^ m * z) ≡ bytes_of m y
unfolding bytes_of
bytes_low zero y z = refl
bytes_low (suc m) y z =
    rw (
      pow-succ',
      mul_assoc,
      add-mul-mod_self_left y 256 (256 ^ m * z),
      add-mul-div_left y (256 ^ m * z) {y = 256} (omega arith),
      bytes_low m (y / 256) z,
    )

bytes_rest : (m x : ℕ) → bytes_of m (x % 256 ^ m) ≡ bytes_of m x
bytes_rest m x = sym (bytes_low m (x % 256 ^ m) (x / 256 ^ m)) ∙ rw (mod-add-div x (256 ^ m))

bytes-add : (j k x : ℕ) → bytes_of (j + k) x ≡ bytes_of j x ++ bytes_of k (x / 256 ^ j)
unfolding bytes_of
bytes-add zero k x = rw (zero-add k, div-one x)
bytes-add (suc j) k x = rw (suc-add, bytes-add j k (x / 256), pow-succ', div-div-eq-div-mul x 256 (256 ^ j))

pub bytes_halves : (j k x : ℕ) → bytes_of (j + k) x ≡ bytes_of j (x % 256 ^ j) ++ bytes_of k (x / 256 ^ j)
bytes_halves j k x = bytes-add j k x ∙ rw (bytes_rest j x)
