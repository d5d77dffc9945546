-- Do the definitions say what the rules say? Verdicts on single ranges, computed. Assumes nothing.
use mathlib.Core.Path.{◌≡◌, refl}
use lib.Ieee.{nan_bits}
use Rattle.order.specs.Key.{float_key, infinite, signed_key}
use Rattle.description.specs.declared.Kind.TheVariants.{Int32, Int64, Float32, Float64, Uint64}
use Rattle.description.specs.Kinds.{key, is_nan, is_infinite}
use Rattle.ranges.specs.declared.Range.{Range}
use Rattle.ranges.specs.Ranges.{ends, has_nan}
use Rattle.verdicts.specs.declared.Verdict.TheVariants.{Sound, Infinite, InfiniteReversed, NotANumber, Reversed}
use Rattle.verdicts.specs.Verdicts.{has_infinity, is_reversed, verdict}

-- 0.0 to -0.0 of both widths; from the least to the largest finite value; the whole of int32; -1 to 0; 2^63 - 1 to 2^63; the whole of uint64
sounds : (r : Range)
    → (verdict (ends Float32 0 0x8000_0000) r ≡ Sound r)
    × (verdict (ends Float64 0 0x8000_0000_0000_0000) r ≡ Sound r)
    × (verdict (ends Float64 0xffef_ffff_ffff_ffff 0x7fef_ffff_ffff_ffff) r ≡ Sound r)
    × (verdict (ends Int32 0x8000_0000 0x7fff_ffff) r ≡ Sound r)
    × (verdict (ends Int64 0xffff_ffff_ffff_ffff 0) r ≡ Sound r)
    × (verdict (ends Uint64 0x7fff_ffff_ffff_ffff 0x8000_0000_0000_0000) r ≡ Sound r)
    × (verdict (ends Uint64 0 0xffff_ffff_ffff_ffff) r ≡ Sound r)
unfolding verdict has_nan has_infinity is_reversed is_nan is_infinite key float_key signed_key nan_bits infinite
sounds r = (refl, refl, refl, refl, refl, refl, refl)

-- -inf to inf; an infinity at either end; inf to -inf; inf to 0.0
infinites : (r : Range)
    → (verdict (ends Float64 0xfff0_0000_0000_0000 0x7ff0_0000_0000_0000) r ≡ Infinite r)
    × (verdict (ends Float32 0xff80_0000 0) r ≡ Infinite r)
    × (verdict (ends Float32 0 0x7f80_0000) r ≡ Infinite r)
    × (verdict (ends Float32 0x7f80_0000 0xff80_0000) r ≡ InfiniteReversed)
    × (verdict (ends Float64 0x7ff0_0000_0000_0000 0) r ≡ InfiniteReversed)
unfolding verdict has_nan has_infinity is_reversed is_nan is_infinite key float_key signed_key nan_bits infinite
infinites r = (refl, refl, refl, refl, refl)

-- a NaN at either end, also where the other end is above it, and beside an infinity; 0 to -1; 1.0 to -1.0; 2^64 - 1 to 0
faults : (r : Range)
    → (verdict (ends Float32 0x7fc0_0000 0) r ≡ NotANumber)
    × (verdict (ends Float64 0 0xfff8_0000_0000_0000) r ≡ NotANumber)
    × (verdict (ends Float32 0x7f80_0000 0x7fc0_0000) r ≡ NotANumber)
    × (verdict (ends Float64 0xfff8_0000_0000_0000 0x7ff0_0000_0000_0000) r ≡ NotANumber)
    × (verdict (ends Int32 0 0xffff_ffff) r ≡ Reversed)
    × (verdict (ends Float32 0x3f80_0000 0xbf80_0000) r ≡ Reversed)
    × (verdict (ends Uint64 0xffff_ffff_ffff_ffff 0) r ≡ Reversed)
unfolding verdict has_nan has_infinity is_reversed is_nan is_infinite key float_key signed_key nan_bits infinite
faults r = (refl, refl, refl, refl, refl, refl, refl)
