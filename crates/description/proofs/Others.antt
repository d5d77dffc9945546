-- The checks of a description say 1 and 28, and no other number.
-- Assumes nothing.
use mathlib.Core.Path.{◌≡◌}
use mathlib.Core.Bool.{false}
use Prim.Native.Nat.{ℕ}
use lib.Dec.{eqb}
use Rattle.answers.specs.Refusals as refusals
use Rattle.answers.proofs.Others.{Other, either-other, next-other, last-other, check-other, each-other}
use Rattle.description.specs.declared.Description.{Description}
use Rattle.description.specs.Description.{sides_of, kind_at, limits_refusal, retired_refusal, description_refusal}
use Rattle.description.specs.Kinds.{is_float32}

module _ (m : ℕ) (some : eqb 0 m ≡ false) (limits : eqb refusals.description m ≡ false) (retired : eqb refusals.retired m ≡ false) (d : Description) where
  pub limits-other : Other m (limits_refusal d)
  unfolding limits_refusal
  limits-other = search (next-other, check-other, last-other)

  pub retired-other : Other m (retired_refusal d)
  unfolding retired_refusal
  retired-other =
      each-other m some _ 0 (sides_of d.dimensions)
      (λ i low high. check-other m some (is_float32 (kind_at d.kinds i)) refusals.retired i retired)

  pub description-other : Other m (description_refusal d)
  description-other = either-other m (limits_refusal d) (retired_refusal d) limits-other retired-other
