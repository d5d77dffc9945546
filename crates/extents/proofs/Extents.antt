-- Asked with and without the check of the list: of a list that answers 0 tiles there is no tile i; of an accepted one
-- the two say the same.
-- Assumes nothing.
use Rattle.std.specs.Prelude.{Result, Ok, Err}
use Rattle.std.specs.Result.{result_unwrap_or}
use mathlib.Core.Path.{◌≡◌, refl, ap, ◌∙◌}
use mathlib.Core.Bool.{Bool, true, false, cond}
use mathlib.Core.List.{List}
use Prim.Native.Nat.{ℕ}
use native.Mathlib.Omega.{arith}
use lib.Dec.{eqb}
use borrow.Author.Tests.{le-ltb}
use Rattle.answers.specs.declared.Refusal.{Refusal}
use Rattle.answers.specs.declared.Refused.{Refused}
use Rattle.lists.specs.declared.TileOffsets.{TileOffsets}
use Rattle.lists.specs.Offsets.{told_tiles, answered, offset_of, extent_of, extent_at, asked}

unwrapped : (list : Result ℕ Refused) → result_unwrap_or list 0 ≡ (told_tiles list).tiles
unfolding told_tiles
unwrapped (Ok k) = refl
unwrapped (Err e) = refl

module _ (n S : ℕ) (s : List ℕ) (i : ℕ) (r : Refusal) where
  pub asked-with : extent_at (answered n r).tiles S s i ≡ asked r (extent_at n S s i)
  unfolding offset_of extent_of
  asked-with = go (eqb r.number 0)
    where
      go : (b : Bool) → extent_at (cond b n 0) S s i ≡ cond b (extent_at n S s i) (record { offset = 0; extent = 0 })
      go true = refl
      go false = rw (le-ltb i 0 (omega arith))

  -- as many tiles as what code tells has, none where it is refused
  pub told-with : (list : Result ℕ Refused) → told_tiles list ≡ answered n r
      → extent_at (result_unwrap_or list 0) S s i ≡ asked r (extent_at n S s i)
  told-with list e = ap (λ (m : ℕ). extent_at m S s i) (unwrapped list ∙ ap (λ (t : TileOffsets). t.tiles) e) ∙ asked-with

  pub same-extent : r.number ≡ 0 → asked r (extent_at n S s i) ≡ extent_at n S s i
  same-extent accepted = rw accepted
