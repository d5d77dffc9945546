-- Lying inside is an order of the ranges that hold no NaN, at every kind at once.
-- Assumes nothing.
use mathlib.Core.Path.{◌≡◌}
use mathlib.Core.Bool.{true, false}
use Rattle.description.specs.Kinds.{same_kind, at_most, is_nan, ordered}
use Rattle.description.proofs.Datatypes.{same_kind_lem, one-kind}
use Rattle.description.proofs.Tests.{both, neither}
use Rattle.description.proofs.Patterns.{at-most-says}
use Rattle.ranges.specs.Ranges.{Ends, has_nan, inside}

module _ (e o : Ends) where
  pub inside-says : inside e o ≡ true
      → (e.kind ≡ o.kind) × ((at_most (ordered e.kind) o.low e.low ≡ true) × (at_most (ordered e.kind) e.high o.high ≡ true))
  unfolding inside
  inside-says h =
      let s = both (same_kind e.kind o.kind) _ h in
      (one-kind e.kind o.kind s.0, both (at_most (ordered e.kind) o.low e.low) (at_most (ordered e.kind) e.high o.high) s.1)

  pub inside-when : e.kind ≡ o.kind → at_most (ordered e.kind) o.low e.low ≡ true → at_most (ordered e.kind) e.high o.high ≡ true
      → inside e o ≡ true
  unfolding inside
  inside-when k l h = rw (l, h, ← k, same_kind_lem e.kind)

-- no NaN, by the ends
pub numbers : (e : Ends) → has_nan e ≡ false → (is_nan e.kind e.low ≡ false) × (is_nan e.kind e.high ≡ false)
unfolding has_nan
numbers e h = neither (is_nan e.kind e.low) (is_nan e.kind e.high) h

-- what lies inside another has no NaN
pub inside-numbers : (e o : Ends) → inside e o ≡ true → has_nan e ≡ false
unfolding has_nan
inside-numbers e o h =
    let s = inside-says e o h in
    rw ((at-most-says (ordered e.kind) o.low e.low s.1.0).1, (at-most-says (ordered e.kind) e.high o.high s.1.1).0)
