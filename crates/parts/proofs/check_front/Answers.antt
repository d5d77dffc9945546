-- `parts::check_front` meets its contract: the bytes of the inner boxes fit. Assumes nothing.
use Prim.Native.Nat.{◌*◌, ◌≤◌}
use native.Mathlib.Nat.{mul-le-mul}
use native.Mathlib.Omega.{arith}
use Rattle.description.specs.Limits.{most_tiles}
use Rattle.tree.specs.Shape.{most_box_bytes}
use Rattle.rtree.proofs.Passed.{small as shape-small}
use Rattle.parts.proofs.check_front.Goals as goal

pub overflow_mul-inner : goal.overflow_mul-inner
overflow_mul-inner c =
    let x = c.args in
    let few = rw (← c.shape_of-shape.ensures) at (shape-small x.fanout x.tiles x.box_bytes).boxes-few in
    let fewer : c.saturating_sub.result ≤ 25 * most_tiles = omega (arith, few, c.saturating_sub.ensures) in
    let all : x.box_bytes * c.saturating_sub.result ≤ most_box_bytes * (25 * most_tiles) = mul-le-mul c.requires fewer in
    omega (arith, all)
