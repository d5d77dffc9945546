-- Do the definitions say what the rules say? Single patterns and bytes, computed. Assumes nothing.
use mathlib.Core.Path.{◌≡◌, refl}
use mathlib.Core.Bool.{true, false}
use mathlib.Core.List.{[], ◌∷◌}
use lib.Ieee.{binary32, binary64, nan_bits}
use mir.Syntax.{w32, w64}
use Rattle.order.specs.Little.{little}
use Rattle.order.specs.Key.{float_key, float_at_most, infinite, signed_key, signed_at_most}

-- both zeros are equal
zeros : (float_key binary32 0x8000_0000 ≡ float_key binary32 0) × (float_key binary64 0x8000_0000_0000_0000 ≡ float_key binary64 0)
unfolding float_key
zeros = (refl, refl)

-- -inf, -1.0, the subnormal next below zero, -0.0 and 0.0, the subnormal next above zero, 1.0, 2.0, inf
rising : (float_at_most binary32 0xff80_0000 0xbf80_0000 ≡ true)
    × (float_at_most binary32 0xbf80_0000 0x8000_0001 ≡ true)
    × (float_at_most binary32 0x8000_0001 0x8000_0000 ≡ true)
    × (float_at_most binary32 0 0x8000_0000 ≡ true)
    × (float_at_most binary32 0x8000_0000 1 ≡ true)
    × (float_at_most binary32 1 0x3f80_0000 ≡ true)
    × (float_at_most binary32 0x3f80_0000 0x4000_0000 ≡ true)
    × (float_at_most binary32 0x4000_0000 0x7f80_0000 ≡ true)
unfolding float_at_most float_key nan_bits
rising = (refl, refl, refl, refl, refl, refl, refl, refl)

-- and not the other way round
falling : (float_at_most binary32 0xbf80_0000 0xff80_0000 ≡ false)
    × (float_at_most binary32 0 0x8000_0001 ≡ false)
    × (float_at_most binary32 0x4000_0000 0x3f80_0000 ≡ false)
    × (float_at_most binary64 0x7ff0_0000_0000_0000 0x7fef_ffff_ffff_ffff ≡ false)
unfolding float_at_most float_key nan_bits
falling = (refl, refl, refl, refl)

-- a NaN, quiet or not, of either sign, is at most nothing, and nothing is at most it
nans : (float_at_most binary32 0x7f80_0001 0x7f80_0001 ≡ false)
    × (float_at_most binary32 0xffc0_0000 0 ≡ false)
    × (float_at_most binary32 0 0x7fc0_0000 ≡ false)
    × (float_at_most binary64 0x7ff8_0000_0000_0000 0x7ff0_0000_0000_0000 ≡ false)
unfolding float_at_most float_key nan_bits
nans = (refl, refl, refl, refl)

-- inf and -inf of both widths; not the largest finite value, nor the NaN next above an infinity, nor -0.0
infinities : (infinite binary32 0x7f80_0000 ≡ true)
    × (infinite binary32 0xff80_0000 ≡ true)
    × (infinite binary64 0x7ff0_0000_0000_0000 ≡ true)
    × (infinite binary64 0xfff0_0000_0000_0000 ≡ true)
    × (infinite binary32 0x7f7f_ffff ≡ false)
    × (infinite binary64 0xffef_ffff_ffff_ffff ≡ false)
    × (infinite binary32 0x7f80_0001 ≡ false)
    × (infinite binary64 0x8000_0000_0000_0000 ≡ false)
unfolding infinite
infinities = (refl, refl, refl, refl, refl, refl, refl, refl)

-- -2147483648 to 2147483647, -1 to 0 and not back; -9223372036854775808 to 0
whole : (signed_at_most w32 0x8000_0000 0x7fff_ffff ≡ true)
    × (signed_at_most w32 0xffff_ffff 0 ≡ true)
    × (signed_at_most w32 0 0xffff_ffff ≡ false)
    × (signed_at_most w64 0x8000_0000_0000_0000 0 ≡ true)
unfolding signed_at_most signed_key
whole = (refl, refl, refl, refl)

-- the lowest byte first, and 0 past the end
bytes : (little (0x78 ∷ 0x56 ∷ 0x34 ∷ 0x12 ∷ []) 0 4 ≡ 0x1234_5678) × (little (0x78 ∷ 0x56 ∷ 0x34 ∷ 0x12 ∷ []) 3 4 ≡ 0x12)
unfolding little
bytes = (refl, refl)
