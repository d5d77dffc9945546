-- Does an end lose anything? A float32 pattern and the float64 pattern of its value stand for one value, so every
-- comparison tells the same of both; a NaN stays a NaN and an infinity an infinity, and the pattern can be had back.
-- Assumes nothing.
use mathlib.Core.Path.{◌≡◌, refl, sym, ap, ◌∙◌}
use mathlib.Core.Bool.{false}
use Prim.Native.Nat.{ℕ, ◌^◌, ◌≤◌, ◌<◌}
use lib.Dec.{leb}
use lib.Ieee.{binary32, binary64, le, to_bits, of_bits, nan_bits, is_nan}
use lib.Ieee.Bits.{nan_bits_is, of_bits-to_bits, of_bits-fits, to_bits-lt}
use lib.Ieee.Fits.{fits_widens}
use mir.Val.{Fits, width_of}
use borrow.Author.Tests.{le-leb, leb-true}
use Rattle.order.specs.Key.{float_at_most, infinite}
use Rattle.order.proofs.Floats.{le-of-bits}
use Rattle.order.proofs.Infinities.{is_inf, infinite-is}
use Rattle.order.proofs.Read.{bits-read}
use Rattle.description.specs.declared.Kind.{Kind}
use Rattle.description.specs.declared.Kind.TheVariants.{Int32, Int64, Float32, Float64, Uint64}
use Rattle.description.specs.Kinds as kinds
use Rattle.description.specs.Kinds.{key, is_infinite, ordered, at_most}
use Rattle.widened.specs.Widened.{widened_kind, widened_pattern, widened_end}

-- ---- a float32 pattern
pub same-value : (p : ℕ) → of_bits binary64 (widened_pattern p) ≡ of_bits binary32 p
unfolding widened_pattern
same-value p = of_bits-to_bits binary64 (of_bits binary32 p) (fits_widens (of_bits binary32 p) (of_bits-fits binary32 p))

pub pattern_lt : (p : ℕ) → widened_pattern p < 256 ^ 8
unfolding widened_pattern
pattern_lt p = to_bits-lt binary64 (of_bits binary32 p) (fits_widens (of_bits binary32 p) (of_bits-fits binary32 p))

pub pattern-at-most : (a b : ℕ) → float_at_most binary64 (widened_pattern a) (widened_pattern b) ≡ float_at_most binary32 a b
pattern-at-most a b =
    sym (le-of-bits binary64 (widened_pattern a) (widened_pattern b)) ∙ (λ i. le (same-value a i) (same-value b i)) ∙ le-of-bits binary32 a b

pub pattern-nan : (p : ℕ) → nan_bits binary64 (widened_pattern p) ≡ nan_bits binary32 p
pattern-nan p = nan_bits_is binary64 (widened_pattern p) ∙ ap is_nan (same-value p) ∙ sym (nan_bits_is binary32 p)

pub pattern-infinite : (p : ℕ) → infinite binary64 (widened_pattern p) ≡ infinite binary32 p
pattern-infinite p = infinite-is binary64 (widened_pattern p) ∙ ap is_inf (same-value p) ∙ sym (infinite-is binary32 p)

-- the pattern can be had back
pub had-back : (p : ℕ) → Fits (width_of binary32) p → nan_bits binary32 p ≡ false → to_bits binary32 (of_bits binary64 (widened_pattern p)) ≡ p
had-back p h n = ap (to_bits binary32) (same-value p) ∙ bits-read binary32 p h n

-- ---- an end of any kind
pub end-nan : (k : Kind) (p : ℕ) → kinds.is_nan (widened_kind k) (widened_end k p) ≡ kinds.is_nan k p
unfolding kinds.is_nan
end-nan Int32 p = refl
end-nan Int64 p = refl
end-nan Float32 p = pattern-nan p
end-nan Float64 p = refl
end-nan Uint64 p = refl

pub end-infinite : (k : Kind) (p : ℕ) → is_infinite (widened_kind k) (widened_end k p) ≡ is_infinite k p
unfolding is_infinite
end-infinite Int32 p = refl
end-infinite Int64 p = refl
end-infinite Float32 p = pattern-infinite p
end-infinite Float64 p = refl
end-infinite Uint64 p = refl

pub end-at-most : (k : Kind) (a b : ℕ) → at_most (ordered (widened_kind k)) (widened_end k a) (widened_end k b) ≡ at_most (ordered k) a b
unfolding at_most kinds.is_nan key float_at_most
end-at-most Int32 a b = refl
end-at-most Int64 a b = refl
end-at-most Float32 a b = pattern-at-most a b
end-at-most Float64 a b = refl
end-at-most Uint64 a b = refl

-- so the keys of two ends that are no NaNs stand in the same order
module _ (k : Kind) (a b : ℕ) (p : kinds.is_nan k a ≡ false) (q : kinds.is_nan k b ≡ false) where
  pub end-keys : leb (key (widened_kind k) (widened_end k a)) (key (widened_kind k) (widened_end k b)) ≡ leb (key k a) (key k b)
  unfolding at_most
  end-keys = rw (end-nan k a, end-nan k b, p, q) at (end-at-most k a b)

  pub end-order : key k a ≤ key k b → key (widened_kind k) (widened_end k a) ≤ key (widened_kind k) (widened_end k b)
  end-order h = leb-true _ _ (end-keys ∙ le-leb _ _ h)

  pub end-order-back : key (widened_kind k) (widened_end k a) ≤ key (widened_kind k) (widened_end k b) → key k a ≤ key k b
  end-order-back h = leb-true _ _ (sym end-keys ∙ le-leb _ _ h)
