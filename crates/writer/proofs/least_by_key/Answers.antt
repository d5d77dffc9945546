-- `writer::least_by_key` meets its contract. The invariant: the place is that of the last box that was read, and of the
-- boxes from `first` to it both patterns are the best. Assumes nothing.
use Prim.Native.Nat.{suc, ◌+◌, ◌-◌, ◌*◌}
use mathlib.Core.Path.{◌≡◌, refl, ◌∙◌}
use native.Mathlib.Omega.{arith}
use Rattle.ranges.specs.Ranges.{ends_at}
use Rattle.ranges.proofs.Reading.{ends-at-fit}
use Rattle.writer.proofs.Choosing.{low-taken, high_taken, one-lowest, one-highest}
use Rattle.writer.proofs.least_by_key.Goals as goal

pub loop-k-init : goal.loop-k-init
loop-k-init c =
    let x = c.args in (
      omega arith,
      omega (arith, c.requires.some),
      omega arith,
      c.ends_at-ends.ensures.low_value ∙ rw (one-lowest x.kind x.level.now x.box_bytes x.side x.first (x.first + 1 - suc x.first) (omega arith)),
      c.ends_at-ends.ensures.high_value ∙ rw (one-highest x.kind x.level.now x.box_bytes x.side x.first (x.first + 1 - suc x.first) (omega arith)),
    )

pub lower-low-requires : goal.lower-low-requires
lower-low-requires c =
    let l = c.loop-k in
    let x = c.args in
    let fit = ends-at-fit x.level.now (λ j. (c.type_inv.level j).fits) x.kind in
    (rw l.invariant.3 (fit _).0, rw c.ends_at-next.ensures.low_value (fit _).0)

pub higher-high-requires : goal.higher-high-requires
higher-high-requires c =
    let l = c.loop-k in
    let x = c.args in
    let fit = ends-at-fit x.level.now (λ j. (c.type_inv.level j).fits) x.kind in
    (rw l.invariant.4 (fit _).1, rw c.ends_at-next.ensures.high_value (fit _).1)

pub loop-k-preserved : goal.loop-k-preserved
loop-k-preserved c =
    let l = c.loop-k in
    let x = c.args in
    let place : l.at + x.box_bytes ≡ l.k * x.box_bytes + x.side = l.invariant.2 in
    let new : l.k ≡ suc (x.first + (l.k - suc x.first)) = omega arith in
    let more : l.k + 1 - suc x.first ≡ suc (l.k - suc x.first) = omega arith in
    let low = rw place at c.ends_at-next.ensures.low_value in
    let high = rw place at c.ends_at-next.ensures.high_value in (
      omega arith,
      omega (arith, c.loop-k-test),
      omega (arith, place),
      rw more
          (c.lower-low.ensures
          ∙ rw (low, l.invariant.3) (low-taken x.kind x.level.now x.box_bytes x.side x.first _ l.k new (λ j. (ends_at x.kind x.level.now (j * x.box_bytes + x.side)).low) _ refl)),
      rw more
          (c.higher-high.ensures
          ∙ rw (high, l.invariant.4) (high_taken x.kind x.level.now x.box_bytes x.side x.first _ l.k new (λ j. (ends_at x.kind x.level.now (j * x.box_bytes + x.side)).high) _ refl)),
    )
