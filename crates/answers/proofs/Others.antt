-- A refusal that has another number than a given one. Where no check of an order has that number, what they say in turn hasn't either.
-- Assumes nothing.
use Rattle.std.proofs.Common.{◌≡◌, ℕ, Bool, true, false, eqb, List, [], ◌∷◌}
use Rattle.answers.specs.declared.Refusal.{Refusal}
use Rattle.answers.specs.Refusals.{none}
use Rattle.answers.specs.Checks.{check, otherwise, first, each}
use Rattle.answers.proofs.Runs.{Each}
use Rattle.answers.proofs.Checks.{either, each-has}

module _ (m : ℕ) where
  pub record Other (r : Refusal) : Type 0 where
    pub apart : eqb r.number m ≡ false

  pub either-other : (r s : Refusal) → Other r → Other s → Other (otherwise r s)
  either-other = either Other

  pub next-other : (r : Refusal) (rs : List Refusal) → Other r → Other (first rs) → Other (first (r ∷ rs))
  unfolding first
  next-other r rs = either-other r (first rs)

  -- a number that a refusal may have: not refused has 0
  module _ (some : eqb 0 m ≡ false) where
    pub none_other : Other none
    none_other = record { apart = some }

    pub last-other : Other (first [])
    unfolding first
    last-other = none_other

    pub check-other : (t : Bool) (number place : ℕ) → eqb number m ≡ false → Other (check t number place)
    check-other true number place h = record { apart = h }
    check-other false number place h = none_other

    pub each-other : (g : ℕ → Refusal) (k n : ℕ) → Each (λ i. Other (g i)) k n → Other (each g k n)
    each-other g k n = each-has Other g k n none_other
