-- What does demand 3 say of the walk of a whole tree? For any tree: the bound on the looked-at number; rising tiles
-- below n; the walk as code runs it, for every buffer. For a tree whose boxes lie in their parents: the flat count and
-- listing.
-- Assumes nothing.
use mathlib.Core.Path.{◌≡◌, ◌∙◌}
use mathlib.Core.Bool.{Bool}
use mathlib.Core.List.{List}
use Prim.Native.Nat.{ℕ, ◌-◌, ◌*◌, ◌+◌, ◌≤◌, ◌<◌}
use native.Mathlib.Nat.{zero-add}
use native.Mathlib.Omega.{arith}
use lib.ListN.{length}
use Rattle.answers.specs.Laid.{laid}
use Rattle.answers.proofs.Laid.{sets-whole}
use Rattle.tree.specs.Shape.{height, levels, all_boxes}
use Rattle.tree.specs.Walk.{looked_number, found_tiles, Rising, Contained}
use Rattle.tree.specs.Code.Run.{look}
use Rattle.tree.specs.Flat.{flat_listing, flat_count}
use Rattle.tree.proofs.Root.{height-one}
use Rattle.tree.proofs.Bound.{bound, looked-le-boxes}
use Rattle.tree.proofs.Flat.{flat-count, flat-listing}
use Rattle.tree.proofs.Rise.{rising}
use Rattle.tree.proofs.Run.{look-after}

module _ (f n : ℕ) (meets : ℕ → ℕ → Bool) (hf : 1 < f) (hn : 0 < n) where
  -- any tree
  pub at-most : looked_number f n meets * (f - 1) ≤ levels f n * (f - 1) + (n - 1) * f
  unfolding levels
  at-most = bound f n meets (height f n) (omega arith) hn (height-one f n hf hn)

  pub no-more-than-boxes : looked_number f n meets ≤ all_boxes f n
  unfolding all_boxes levels
  no-more-than-boxes = looked-le-boxes f n meets (height f n) (omega arith) (height-one f n hf hn)

  pub found-rising : Rising 0 n (found_tiles f n meets)
  found-rising = rising f n meets (height f n) 0 (omega (arith, height-one f n hf hn))

  -- the walk as code runs it: the count and the number found start at 0, and the buffer is of any length
  pub answer : (buffer : List ℕ) → look f n meets (height f n) 0 (0, 0, buffer)
      ≡ (looked_number f n meets, length (found_tiles f n meets), laid (found_tiles f n meets) buffer)
  answer buffer = look-after f n meets (height f n) 0 (0, 0, buffer) ∙ simp (zero-add, sets-whole)

  -- an accepted tree
  module _ (inside : Contained f n meets (height f n)) where
    pub counted : looked_number f n meets ≡ flat_count f n meets
    counted = flat-count f n meets (height f n) (omega arith) inside (height-one f n hf hn)

    pub listed : found_tiles f n meets ≡ flat_listing n meets
    listed = flat-listing f n meets (height f n) (omega arith) inside (height-one f n hf hn)
