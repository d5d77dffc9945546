-- Do the definitions say what the rules say? Single patterns and ranges, computed. Assumes nothing.
use mathlib.Core.Path.{◌≡◌, refl}
use mathlib.Core.Bool.{true, false}
use lib.Ieee.{to_bits, of_bits, nan_bits}
use Rattle.order.specs.Key.{float_key}
use Rattle.description.specs.declared.Kind.TheVariants.{Float32, Float64}
use Rattle.description.specs.Kinds.{key, is_nan, at_most}
use Rattle.ranges.specs.Ranges.{ends, meets}
use Rattle.widened.specs.Widened.{widened_pattern, widened_ends}

-- 0.0, 1.0, 2.5, the least and the greatest subnormal, the least and the greatest normal value, inf; and the same with
-- the other sign
patterns : (widened_pattern 0x0000_0000 ≡ 0x0000_0000_0000_0000)
    × (widened_pattern 0x3f80_0000 ≡ 0x3ff0_0000_0000_0000)
    × (widened_pattern 0x4020_0000 ≡ 0x4004_0000_0000_0000)
    × (widened_pattern 0x0000_0001 ≡ 0x36a0_0000_0000_0000)
    × (widened_pattern 0x007f_ffff ≡ 0x380f_ffff_c000_0000)
    × (widened_pattern 0x0080_0000 ≡ 0x3810_0000_0000_0000)
    × (widened_pattern 0x7f7f_ffff ≡ 0x47ef_ffff_e000_0000)
    × (widened_pattern 0x7f80_0000 ≡ 0x7ff0_0000_0000_0000)
    × (widened_pattern 0x8000_0000 ≡ 0x8000_0000_0000_0000)
    × (widened_pattern 0xbf80_0000 ≡ 0xbff0_0000_0000_0000)
    × (widened_pattern 0xc020_0000 ≡ 0xc004_0000_0000_0000)
    × (widened_pattern 0x8000_0001 ≡ 0xb6a0_0000_0000_0000)
    × (widened_pattern 0x807f_ffff ≡ 0xb80f_ffff_c000_0000)
    × (widened_pattern 0x8080_0000 ≡ 0xb810_0000_0000_0000)
    × (widened_pattern 0xff7f_ffff ≡ 0xc7ef_ffff_e000_0000)
    × (widened_pattern 0xff80_0000 ≡ 0xfff0_0000_0000_0000)
unfolding widened_pattern to_bits of_bits
patterns = (refl, refl, refl, refl, refl, refl, refl, refl, refl, refl, refl, refl, refl, refl, refl, refl)

-- [0.0, 1.0] of float32 against [0.0, 1.0] of float64: apart, and widened not. A query with such a window was refused,
-- and its widened one is not.
apart-no-more : (meets (ends Float32 0 0x3f80_0000) (ends Float64 0 0x3ff0_0000_0000_0000) ≡ false)
    × (meets (widened_ends (ends Float32 0 0x3f80_0000)) (widened_ends (ends Float64 0 0x3ff0_0000_0000_0000)) ≡ true)
unfolding widened_pattern to_bits of_bits meets at_most is_nan key float_key nan_bits
apart-no-more = (refl, refl)
