-- Asked with and without the check: of bodies that answer 0 tiles there is no tile i.
-- Assumes nothing.
use mathlib.Core.Path.{◌≡◌, refl, sym}
use mathlib.Core.Bool.{Bool, true, false, cond}
use mathlib.Core.List.{List}
use Prim.Native.Nat.{ℕ, ◌≤◌, ◌<◌}
use native.Mathlib.Omega.{arith}
use lib.Dec.{eqb}
use borrow.Author.Tests.{lt-ltb, le-ltb}
use Rattle.answers.specs.declared.Refusal.{Refusal}
use Rattle.tile_metadata.specs.Bodies.{answered, together, value_at, value_of, unless_refused}

-- what is asked for n tiles, and is nothing for 0
module _ {A : Type 0} (f : ℕ → A) {nothing : A} (none : f 0 ≡ nothing) (n : ℕ) where
  pub one-asked : (r : Refusal) → f (answered n r).tiles ≡ unless_refused r.number (f n) nothing
  one-asked r = go (eqb r.number 0)
    where
      go : (b : Bool) → f (cond b n 0) ≡ cond b (f n) nothing
      go true = refl
      go false = none

  pub two-asked : (a b : Refusal) → f (together n a b).tiles ≡ unless_refused (together n a b).number (f n) nothing
  two-asked a b = go (eqb a.number 0) (eqb b.number 0) refl refl
    where
      go : (t u : Bool) → eqb a.number 0 ≡ t → eqb b.number 0 ≡ u
          → f (together n a b).tiles ≡ unless_refused (together n a b).number (f n) nothing
      go true true e h = rw (e, h)
      go true false e h = simp (e, h) none
      go false u e h = simp e none

-- value i, where there is such a tile, and past the last one
module _ (w n : ℕ) (s : List ℕ) (i : ℕ) where
  pub value_there : i < n → value_at w s i ≡ value_of w n s i
  unfolding value_of
  value_there h = rw (lt-ltb i n h)

  pub value-past : n ≤ i → 0 ≡ value_of w n s i
  unfolding value_of
  value-past h = rw (le-ltb i n h)

-- no value of 0 tiles
pub no_value : (w : ℕ) (s : List ℕ) (i : ℕ) → value_of w 0 s i ≡ 0
no_value w s i = sym (value-past w 0 s i (omega arith))
