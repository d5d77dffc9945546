-- A stored side, read from the part that has it whole, in a kind that is known there: it has a NaN where that part has. An integer's range has none.
-- Assumes nothing.
use Prim.Native.Nat.{ℕ, ◌+◌, ◌≤◌}
use mathlib.Core.Path.{◌≡◌, refl, ap, ◌∙◌}
use mathlib.Core.Bool.{Bool, false}
use mathlib.Core.List.{List, [], ◌∷◌}
use lib.ListN.{length, take, drop}
use types.Run.{OneOf, miss}
use denote.Enum.Declared.{tag_of}
use Rattle.description.specs.declared.Kind.{Kind}
use Rattle.description.specs.declared.Kind.TheVariants.{Int32, Int64, Float32, Float64, Uint64}
use Rattle.description.specs.Kinds.{range_bytes, is_nan}
use Rattle.description.specs.contracts.Kind.{the_type}
use Rattle.ranges.specs.Ranges.{Ends, ends_at, has_nan}
use Rattle.ranges.proofs.Reading.{known-ends}

module _ (known : Kind) {k : Kind} (s : List ℕ) (at w : ℕ) (same : k ≡ known) (there : at + range_bytes k ≤ length s) (size : w ≡ range_bytes known) where
  abbrev part : Ends
  part = ends_at known (take w (drop at s)) 0

  part-nan : has_nan part ≡ has_nan (ends_at k s at)
  part-nan = ap has_nan (known-ends known s at same there w size)

  pub part-numbers : has_nan (ends_at k s at) ≡ false → has_nan part ≡ false
  part-numbers h = part-nan ∙ h

  pub part-told : {t : Bool} → t ≡ has_nan part → t ≡ has_nan (ends_at k s at)
  part-told e = e ∙ part-nan

-- an integer's range, by the tag of the kind
pub no-float : (k : Kind) (s : List ℕ) (at : ℕ) → OneOf (0 ∷ 1 ∷ 4 ∷ []) (tag_of the_type k) → false ≡ has_nan (ends_at k s at)
unfolding has_nan ends_at is_nan
no-float Int32 s at h = refl
no-float Int64 s at h = refl
no-float Float32 s at h = absurd (miss (0 ∷ 1 ∷ 4 ∷ []) 2 tt h)
no-float Float64 s at h = absurd (miss (0 ∷ 1 ∷ 4 ∷ []) 3 tt h)
no-float Uint64 s at h = refl
