-- Do the definitions say what the rules say? Single ranges, computed. Assumes nothing.
use mathlib.Core.Path.{◌≡◌, refl}
use mathlib.Core.Bool.{true, false}
use lib.Ieee.{nan_bits}
use Rattle.order.specs.Key.{float_key, signed_key}
use Rattle.description.specs.declared.Kind.TheVariants.{Int32, Int64, Float32, Uint64}
use Rattle.description.specs.Kinds.{key, is_nan, at_most}
use Rattle.ranges.specs.Ranges.{ends, inside, meets}

-- [0, 4] meets [4, 4] and not [5, 9]; ranges of different kinds and a range with NaN meet nothing; 2^63 - 1 to 2^63 meets 2^63 to 2^64 - 1
meeting : (meets (ends Int32 0 4) (ends Int32 4 4) ≡ true)
    × (meets (ends Int32 0 4) (ends Int32 5 9) ≡ false)
    × (meets (ends Int32 0 4) (ends Int64 0 4) ≡ false)
    × (meets (ends Int64 0 4) (ends Uint64 0 4) ≡ false)
    × (meets (ends Float32 0 0x7fc0_0000) (ends Float32 0 0) ≡ false)
    × (meets (ends Uint64 0x7fff_ffff_ffff_ffff 0x8000_0000_0000_0000) (ends Uint64 0x8000_0000_0000_0000 0xffff_ffff_ffff_ffff) ≡ true)
unfolding meets at_most is_nan key float_key signed_key nan_bits
meeting = (refl, refl, refl, refl, refl, refl)

-- -0.0 lies inside [0.0, 1.0]; a range lies inside itself; [20, 25] does not lie inside [20, 24]; 2^63 lies inside [0, 2^64 - 1]
lying : (inside (ends Float32 0x8000_0000 0x8000_0000) (ends Float32 0 0x3f80_0000) ≡ true)
    × (inside (ends Int32 20 24) (ends Int32 20 24) ≡ true)
    × (inside (ends Int32 20 25) (ends Int32 20 24) ≡ false)
    × (inside (ends Uint64 0x8000_0000_0000_0000 0x8000_0000_0000_0000) (ends Uint64 0 0xffff_ffff_ffff_ffff) ≡ true)
unfolding inside at_most is_nan key float_key signed_key nan_bits
lying = (refl, refl, refl, refl)
