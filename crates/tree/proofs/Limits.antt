-- What follows for a tree within the limits? They are what the tests of n, f and b say; the root is near; every level
-- is again within them, so that no count, place or sum of boxes is too large. The limits are cited by name; the proofs
-- are good for a most_tiles of up to 2 ^ 24.
-- Assumes nothing.
use mathlib.Core.Path.{◌≡◌, refl}
use mathlib.Core.Bool.{Bool, true, false, ◌||◌}
use Prim.Native.Nat.{ℕ, ◌+◌, ◌*◌, ◌≤◌}
use native.Mathlib.Nat.{mul-le-mul_right}
use native.Mathlib.Omega.{arith}
use lib.Dec.{ltb}
use borrow.Author.Tests.{ltb-false, le-ltb}
use Rattle.description.specs.Limits.{least_tiles, most_tiles, least_fanout, most_fanout, outside, Sizes}
use Rattle.tree.specs.Shape.{up, boxes, height, levels, all_boxes, body_bytes, most_box_bytes, outside_limits}
use Rattle.tree.proofs.Counts.{boxes-pos, boxes-le}
use Rattle.tree.proofs.Root.{height-le}
use Rattle.tree.proofs.Places.{to_le}

-- the tests
neither : (a b : Bool) → a || b ≡ false → (a ≡ false) × (b ≡ false)
neither true b h = let z : ◌≡◌ {A = ℕ} 0 1 = cc in absurd (omega arith)
neither false b h = (refl, h)

pub sizes : (f n b : ℕ) → outside_limits f n b ≡ false → Sizes n f × (b ≤ most_box_bytes)
sizes f n b h =
    let p = neither (outside least_tiles most_tiles n) (outside least_fanout most_fanout f || ltb most_box_bytes b) h in
    let q = neither (ltb n least_tiles) (ltb most_tiles n) p.0 in
    let r = neither (outside least_fanout most_fanout f) (ltb most_box_bytes b) p.1 in
    let s = neither (ltb f least_fanout) (ltb most_fanout f) r.0 in (
      record {
        some = ltb-false n least_tiles q.0;
        most = ltb-false most_tiles n q.1;
        least = ltb-false f least_fanout s.0;
        widest = ltb-false most_fanout f s.1;
      },
      ltb-false most_box_bytes b r.1,
    )

module _ {n f : ℕ} (z : Sizes n f) where
  pub inside-limits : (b : ℕ) → b ≤ most_box_bytes → outside_limits f n b ≡ false
  inside-limits b w =
      rw (
        le-ltb n least_tiles z.some,
        le-ltb most_tiles n z.most,
        le-ltb f least_fanout z.least,
        le-ltb most_fanout f z.widest,
        le-ltb most_box_bytes b w,
      )

  pub root-near : height f n ≤ 24
  root-near = height-le f n 24 z.least (omega (arith, z.most))

  pub levels-most : levels f n ≤ 25
  unfolding levels
  levels-most = omega (arith, root-near)

  -- a level is within the limits as the leaves are
  pub level-sizes : (j : ℕ) → Sizes (boxes f n j) f
  level-sizes j = record {
    some = boxes-pos f n j (omega arith) z.some;
    most = omega (arith, boxes-le f n j (omega arith) z.some);
    least = z.least;
    widest = z.widest;
  }

  pub above-sizes : Sizes (up f n) f
  unfolding boxes
  above-sizes = level-sizes 1

  -- no more than 25 levels of most_tiles boxes
  pub boxes-small : all_boxes f n ≤ 25 * most_tiles
  unfolding all_boxes levels
  boxes-small =
      omega (arith, to_le f n (height f n) (omega arith) z.some, mul-le-mul_right n levels-most, z.most)

  pub body-small : (b : ℕ) → b ≤ most_box_bytes → body_bytes f n b ≤ 208 + most_box_bytes * (25 * most_tiles)
  unfolding body_bytes
  body-small b w = omega (arith, levels-most, mul-le-mul_right (all_boxes f n) w, boxes-small)
