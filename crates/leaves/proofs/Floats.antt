-- A value is compared as the pattern it was read of, so floats that are sound are sound ends. Assumes nothing.
use mathlib.Core.Path.{◌≡◌, refl, sym, ◌∙◌}
use mathlib.Core.Bool.{Bool, false}
use Prim.Native.Nat.{ℕ}
use lib.Ieee.{Format, binary32, binary64, of_bits, to_bits, nan_bits}
use mir.Syntax.{w32, w64}
use mir.Val.{Fits, width_of}
use Rattle.description.specs.declared.Kind.TheVariants.{Float32, Float64}
use Rattle.description.specs.Kinds.{key, is_nan, is_infinite, at_most}
use Rattle.leaves.specs.Code.Sound.{SoundEnds, SoundFloats}
use Rattle.order.specs.Key.{float_at_most}
use Rattle.order.proofs.Read.{bits-read}

pub at-most-read : (f : Format) (a b : ℕ) (r : Bool) → Fits (width_of f) a → Fits (width_of f) b → nan_bits f a ≡ false → nan_bits f b ≡ false
    → r ≡ float_at_most f (to_bits f (of_bits f a)) (to_bits f (of_bits f b)) → r ≡ float_at_most f a b
at-most-read f a b r h k p q e = e ∙ rw (bits-read f a h p, bits-read f b k q)

-- what the two formats' floats say of the ends of their kinds
pub sound32 : (low high : ℕ) → Fits w32 low → Fits w32 high → SoundFloats binary32 (λ p. to_bits binary32 (of_bits binary32 p)) low high
    → SoundEnds Float32 low high
unfolding at_most key is_nan is_infinite float_at_most
sound32 low high h k s = (sym (at-most-read binary32 low high _ h k s.low_number s.high_number refl) ∙ s.ordered, s.low_finite, s.high_finite)

pub sound64 : (low high : ℕ) → Fits w64 low → Fits w64 high → SoundFloats binary64 (λ p. to_bits binary64 (of_bits binary64 p)) low high
    → SoundEnds Float64 low high
unfolding at_most key is_nan is_infinite float_at_most
sound64 low high h k s = (sym (at-most-read binary64 low high _ h k s.low_number s.high_number refl) ∙ s.ordered, s.low_finite, s.high_finite)
