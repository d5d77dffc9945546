-- How a loop tells of one tile after the other: what is still to come, over what stands in the buffer now, is all of it
-- over what stood there first. One tile has one number or two.
-- Assumes nothing.
use mathlib.Core.Path.{◌≡◌, refl, sym, ◌∙◌}
use mathlib.Core.List.{List, [], ◌∷◌, ◌++◌}
use Prim.Native.Nat.{ℕ, suc, ◌+◌, ◌-◌, ◌*◌, ◌≤◌, ◌<◌}
use native.Mathlib.Numerals.{add-one}
use native.Mathlib.Omega.{arith}
use lib.ListN.{length, set, length-set}
use lib.Seq.{sets}
use Rattle.answers.specs.Laid.{laid}
use Rattle.answers.specs.Runs.{join}
use Rattle.answers.proofs.Laid.{sets-whole}
use Rattle.answers.proofs.Runs.{over-start, over-left, over_done}

pub record Told (width : ℕ) (g : ℕ → List ℕ) (m : ℕ) (first out : List ℕ) (k : ℕ) : Type 0 where
  pub within : k ≤ m
  pub size : length out ≡ length first
  pub stored : sets out (width * k) (join g k (m - k)) ≡ sets first 0 (join g 0 m)

pub told-start : (width : ℕ) (g : ℕ → List ℕ) (m : ℕ) (first : List ℕ) → Told width g m first first 0
told-start width g m first =
    let z : width * 0 ≡ 0 = omega arith in
    record { within = omega arith; size = refl; stored = rw (z, ← over-start ◌++◌ [] g m) }

module _ {g : ℕ → List ℕ} {m : ℕ} {first out : List ℕ} {k : ℕ} where
  pub told-one : Told 1 g m first out k → k < m → (a : ℕ) → g k ≡ a ∷ [] → Told 1 g m first (set out k a) (k + 1)
  told-one t h a e =
      let z : 1 * k ≡ k = omega arith in
      let next : 1 * (k + 1) ≡ suc k = omega arith in
      record {
        within = omega arith;
        size = length-set out k a ∙ t.size;
        stored = rw next (rw (z, over-left ◌++◌ [] g k m h, e) at t.stored);
      }

  pub told-two : Told 2 g m first out k → k < m → (a b : ℕ) → g k ≡ a ∷ b ∷ []
      → Told 2 g m first (set (set out (2 * k) a) (2 * k + 1) b) (k + 1)
  told-two t h a b e =
      let next : 2 * (k + 1) ≡ suc (suc (2 * k)) = omega arith in
      record {
        within = omega arith;
        size = length-set (set out (2 * k) a) (2 * k + 1) b ∙ length-set out (2 * k) a ∙ t.size;
        stored = rw (next, add-one (2 * k)) (rw (over-left ◌++◌ [] g k m h, e) at t.stored);
      }

pub told-done : {width : ℕ} {g : ℕ → List ℕ} {m : ℕ} {first out : List ℕ} {k : ℕ} → Told width g m first out k → m ≤ k
    → out ≡ laid (join g 0 m) first
told-done {width} {g} {m} {first} {out} {k} t h =
    let none : sets out (width * k) (join g k (m - k)) ≡ out = rw (over_done ◌++◌ [] g k (m - k) (omega arith)) in
    sym none ∙ t.stored ∙ sets-whole first (join g 0 m)
