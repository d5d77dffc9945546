-- The whole walk: the root's row has a `Row`, and what walking it comes to is the looked-at number, the number found and the buffer with
-- the first found tiles.
-- Assumes nothing.
use Prim.Native.Nat.{ℕ, ◌*◌, ◌^◌, ◌<◌}
use mathlib.Core.Path.{◌≡◌}
use mathlib.Core.List.{List}
use native.Mathlib.Omega.{arith}
use lib.ListN.{length}
use Rattle.answers.specs.Laid.{laid}
use Rattle.tree.specs.Shape.{boxes, children, height}
use Rattle.tree.specs.Walk.{looked_number, found_tiles}
use Rattle.tree.proofs.Root.{height-one}
use Rattle.tree.proofs.Places.{boxes-inside}
use Rattle.tree.proofs.Steps.{run-one, found-le}
use Rattle.tree.proofs.Demand3.{no-more-than-boxes, answer}
use Rattle.query.specs.Code.Walking.{Ground, tiles_in, seen, children_walked, Grounded, ChildRow}

-- the looked-at number and the tiles found
abbrev pub looks : Ground → ℕ
looks g = looked_number g.f (tiles_in g) (seen g)

abbrev pub finds : Ground → List ℕ
finds g = found_tiles g.f (tiles_in g) (seen g)

module _ {g : Ground} (on : Grounded g) {depth : ℕ} (out : List ℕ) (deep : depth ≡ height g.f (tiles_in g)) where
  one : boxes g.f (tiles_in g) depth ≡ 1
  one = rw deep (height-one g.f (tiles_in g) on.sizes.least on.sizes.some)

  -- the root is the row of a box above it
  one-child : children g.f (tiles_in g) depth 0 ≡ 1
  unfolding children
  one-child = rw one (omega (arith, on.sizes.least))

  first : 0 * g.f ≡ 0
  first = omega arith

  pub comes-to : children_walked g depth 0 (0, 0, out) ≡ (looks g, length (finds g), laid (finds g) out)
  comes-to = rw (first, one-child, run-one, deep) (answer g.f (tiles_in g) (seen g) on.sizes.least on.sizes.some out)

  pub root-row : length g.body < 2 ^ 64 → ChildRow g depth 0 (0, 0, out)
  root-row fits =
      let z = on.sizes in
      let few : looks g < 2 ^ 64 =
      omega (
        arith,
        on.whole,
        no-more-than-boxes g.f (tiles_in g) (seen g) z.least z.some,
        boxes-inside g.f (tiles_in g) g.b (omega (arith, on.wide)),
      )
      in
      record {
        on = on;
        level = omega arith;
        there = rw (first, one-child, one) (omega arith);
        counts = rw comes-to few;
        finds = rw comes-to (omega (arith, few, found-le g.f (tiles_in g) (seen g) (height g.f (tiles_in g)) 0));
      }
