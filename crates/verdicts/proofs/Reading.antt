-- The verdict on a range that was made of patterns, or read, is that on its patterns, since the ends that come back are like them.
-- Assumes nothing.
use mathlib.Core.Path.{◌≡◌}
use mathlib.Core.List.{List}
use Prim.Native.Nat.{ℕ, ◌<◌, ◌^◌}
use lib.ListN.{get_or}
use Rattle.description.specs.declared.Kind.{Kind}
use Rattle.description.specs.Kinds.{end_bytes, ordered}
use Rattle.description.proofs.Patterns.{Alike, alike-nan, alike-infinite, alike-left, alike_right}
use Rattle.ranges.specs.declared.Range.{Range}
use Rattle.ranges.specs.Ranges.{ends, ends_at, ends_of, range_of, range_at, has_nan}
use Rattle.ranges.proofs.Reading.{again, alike-again, as-made, ends-at-fit}
use Rattle.verdicts.specs.Verdicts.{has_infinity, is_finite, verdict}
use Rattle.verdicts.proofs.Judging.{verdict-on-is}

-- ---- ends that are like others
module _ (k : Kind) (a b c d : ℕ) (low : Alike (ordered k) a c) (high : Alike (ordered k) b d) where
  alike-verdict : (r : Range) → verdict (ends k a b) r ≡ verdict (ends k c d) r
  alike-verdict r =
      rw (verdict-on-is k a b r, verdict-on-is k c d r, alike-left (ordered k) a c b low, alike_right (ordered k) b d c high, alike-nan (ordered k) a c low, alike-nan (ordered k) b d high, alike-infinite k a c low, alike-infinite k b d high)

  alike-finite : is_finite (ends k a b) ≡ is_finite (ends k c d)
  unfolding has_nan has_infinity
  alike-finite =
      rw (alike-nan (ordered k) a c low, alike-nan (ordered k) b d high, alike-infinite k a c low, alike-infinite k b d high)

-- ---- a range made of patterns that fit
module _ (k : Kind) (a b : ℕ) (a-fits : a < 256 ^ end_bytes k) (b-fits : b < 256 ^ end_bytes k) where
  pub of-verdict : (r : Range) → verdict (ends_of (range_of k a b)) r ≡ verdict (ends k a b) r
  of-verdict r =
      as-made k a b (λ e. verdict e r) (alike-verdict k (again k a) (again k b) a b (alike-again k a a-fits) (alike-again k b b-fits) r)

  pub of-finite : is_finite (ends_of (range_of k a b)) ≡ is_finite (ends k a b)
  of-finite = as-made k a b is_finite (alike-finite k (again k a) (again k b) a b (alike-again k a a-fits) (alike-again k b b-fits))

-- ---- a range that was read
module _ (s : List ℕ) (byte : (i : ℕ) → get_or s i 0 < 256) (k : Kind) (at : ℕ) where
  pub read-verdict : (r : Range) → verdict (ends_of (range_at k s at)) r ≡ verdict (ends_at k s at) r
  unfolding ends_at
  read-verdict =
      of-verdict k (ends_at k s at).low (ends_at k s at).high (ends-at-fit s byte k at).0 (ends-at-fit s byte k at).1

  pub read-finite : is_finite (ends_of (range_at k s at)) ≡ is_finite (ends_at k s at)
  unfolding ends_at
  read-finite = of-finite k (ends_at k s at).low (ends_at k s at).high (ends-at-fit s byte k at).0 (ends-at-fit s byte k at).1
