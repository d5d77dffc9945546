-- What is carried of a box: the ends of each side come back as they were put there, and fit their kind.
-- Assumes nothing.
use mathlib.Core.Path.{◌≡◌, refl, subst}
use mathlib.Core.List.{[], ◌∷◌}
use Prim.Native.Nat.{ℕ, zero, suc, ◌+◌, ◌*◌, ◌^◌, ◌≤◌, ◌<◌}
use native.Mathlib.Nat.{mod-lt, one-le-pow}
use native.Mathlib.Decide.{dec_lt}
use native.Mathlib.Omega.{arith}
use lib.ListN.{get_or, set}
use borrow.Author.Tests.{lt-ltb}
use Rattle.answers.specs.Runs.{over}
use Rattle.description.specs.declared.Kind.{Kind}
use Rattle.description.specs.Kinds.{end_bytes}
use Rattle.ranges.specs.Ranges.{Ends, fitted}
use Rattle.windows.specs.Code.Carried.{carried, Fitting}

-- filled side by side
module _ (side : ℕ → Ends) where
  pub carried_none : carried side 0 ≡ 0 ∷ 0 ∷ 0 ∷ 0 ∷ 0 ∷ 0 ∷ 0 ∷ 0 ∷ []
  unfolding carried over
  carried_none = refl

  pub carried-next : (i : ℕ) → i < 4 → set (set (carried side i) (2 * i) (side i).low) (2 * i + 1) (side i).high ≡ carried side (i + 1)
  unfolding carried over
  carried-next zero h = refl
  carried-next (suc zero) h = refl
  carried-next (suc (suc zero)) h = refl
  carried-next (suc (suc (suc zero))) h = refl
  carried-next (suc (suc (suc (suc i)))) h = absurd (omega arith)

  pub carried-low : (i m : ℕ) → i < m → i < 4 → get_or (carried side m) (2 * i) 0 ≡ (side i).low
  unfolding carried over
  carried-low zero m h l = rw (lt-ltb 0 m h)
  carried-low (suc zero) m h l = rw (lt-ltb 1 m h)
  carried-low (suc (suc zero)) m h l = rw (lt-ltb 2 m h)
  carried-low (suc (suc (suc zero))) m h l = rw (lt-ltb 3 m h)
  carried-low (suc (suc (suc (suc i)))) m h l = absurd (omega arith)

  pub carried-high : (i m : ℕ) → i < m → i < 4 → get_or (carried side m) (2 * i + 1) 0 ≡ (side i).high
  unfolding carried over
  carried-high zero m h l = rw (lt-ltb 0 m h)
  carried-high (suc zero) m h l = rw (lt-ltb 1 m h)
  carried-high (suc (suc zero)) m h l = rw (lt-ltb 2 m h)
  carried-high (suc (suc (suc zero))) m h l = rw (lt-ltb 3 m h)
  carried-high (suc (suc (suc (suc i)))) m h l = absurd (omega arith)

-- a carried end fits its kind
pub fitted-lt : (k : Kind) (p : ℕ) → fitted k p < 256 ^ end_bytes k
fitted-lt k p = mod-lt p (one-le-pow (end_bytes k) 256 (omega arith))

-- a window's ends, as a loop carries them side by side: what its sides have fits, and so does what is carried
module _ (side : ℕ → Ends) (kind : ℕ → Kind) where
  abbrev pub Fits : ℕ → Type 0
  Fits i = ((side i).low < 256 ^ end_bytes (kind i)) × ((side i).high < 256 ^ end_bytes (kind i))

  pub fits_more : (i : ℕ) → ((j : ℕ) → j < i → Fits j) → Fits i → (j : ℕ) → j < i + 1 → Fits j
  fits_more i h p j l = go (dec_lt j i)
    where
      go : Dec (j < i) → Fits j
      go (yes a) = h j a
      go (no a) =
          let same : i ≡ j = omega arith in
          subst Fits same p

  pub fitting : (m : ℕ) → m ≤ 4 → ((j : ℕ) → j < m → Fits j) → Fitting kind (carried side m) m
  fitting m few h i l = rw (carried-low side i m l (omega arith), carried-high side i m l (omega arith)) (h i l)
