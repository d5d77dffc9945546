-- `query::window_range` meets its contract: the patterns of floats are no NaN's, so they have a value each. Assumes nothing.
use mathlib.Core.Path.{◌≡◌, sym, ap, ◌∙◌}
use mathlib.Core.Bool.{false}
use Prim.Native.Nat.{ℕ}
use lib.Ieee.{binary32, binary64, nan_bits}
use Rattle.order.proofs.Read.{no_nan}
use Rattle.description.specs.declared.Kind.{Kind}
use Rattle.description.specs.declared.Kind.TheVariants.{Float32, Float64}
use Rattle.description.specs.Kinds.{is_nan}
use Rattle.ranges.specs.Ranges.{fitted}
use Rattle.ranges.proofs.Reading.{fitted-same}
use Rattle.query.proofs.window_range.Goals as goal

-- a pattern that is taken from x
number32 : (k : Kind) (x : ℕ) {p : ℕ} → k ≡ Float32 → is_nan k (fitted k x) ≡ false → p ≡ fitted Float32 x → nan_bits binary32 p ≡ false
unfolding is_nan
number32 k x e h f = ap (nan_bits binary32) f ∙ rw e at h

number64 : (k : Kind) (x : ℕ) → k ≡ Float64 → is_nan k (fitted k x) ≡ false → fitted Float64 x ≡ x → nan_bits binary64 x ≡ false
unfolding is_nan
number64 k x e h f = ap (nan_bits binary64) (sym f) ∙ rw e at h

pub float_from_bits-result : goal.float_from_bits-result
float_from_bits-result c =
    no_nan binary32 _ (number32 c.args.kind c.args.low c.in-Float32.is c.requires.0 c.low_four.ensures)

pub float_from_bits-result-in-Float32 : goal.float_from_bits-result-in-Float32
float_from_bits-result-in-Float32 c =
    no_nan binary32 _ (number32 c.args.kind c.args.high c.in-Float32.is c.requires.1 c.low_four-in-Float32.ensures)

pub float_from_bits-result-in-Float64 : goal.float_from_bits-result-in-Float64
float_from_bits-result-in-Float64 c =
    no_nan binary64 _ (number64 c.args.kind c.args.low c.in-Float64.is c.requires.0 (fitted-same Float64 _ c.ranges.low.fits))

pub float_from_bits-result-in-Float64-2 : goal.float_from_bits-result-in-Float64-2
float_from_bits-result-in-Float64-2 c =
    no_nan binary64 _ (number64 c.args.kind c.args.high c.in-Float64.is c.requires.1 (fitted-same Float64 _ c.ranges.high.fits))
