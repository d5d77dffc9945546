-- `writer::least_f64` meets its contract. The invariant: the place is that of the last box that was read, and of the
-- boxes from `first` to it both values are the best, by the laws of `Floats.antt`. Assumes nothing.
use Prim.Native.Nat.{ℕ, suc, ◌+◌, ◌-◌, ◌≤◌, ◌<◌}
use mathlib.Core.Path.{◌≡◌, ap, ◌∙◌}
use native.Mathlib.Omega.{arith}
use lib.Ieee.{binary64, of_bits}
use lib.ListN.{get_or}
use Rattle.description.specs.declared.Kind.TheVariants.{Float64}
use Rattle.writer.proofs.Choosing.{one-lowest, one-highest}
use Rattle.writer.proofs.Floats as floats
use Rattle.writer.proofs.Floats.{float64}
use Rattle.writer.proofs.least_f64.Goals as goal

pub loop-k-init : goal.loop-k-init
loop-k-init c =
    let x = c.args in
    let more = x.first + 1 - suc x.first in
    let byte : (j : ℕ) → get_or x.level.now j 0 < 256 = λ j. (c.type_inv.level j).fits in
    let low = c.ends_at-ends.ensures.low_value in
    let high = c.ends_at-ends.ensures.high_value in (
      omega arith,
      omega (arith, c.requires.some),
      omega arith,
      ap (of_bits binary64) low ∙ rw (one-lowest Float64 x.level.now x.box_bytes x.side x.first more (omega arith)),
      ap (of_bits binary64) high ∙ rw (one-highest Float64 x.level.now x.box_bytes x.side x.first more (omega arith)),
    )

pub loop-k-preserved : goal.loop-k-preserved
loop-k-preserved c =
    let x = c.args in
    let l = c.loop-k in
    let byte : (j : ℕ) → get_or x.level.now j 0 < 256 = λ j. (c.type_inv.level j).fits in
    let next-low = rw l.invariant.2 at (c.ends_at-next.ensures.low_value) in
    let next-high = rw l.invariant.2 at (c.ends_at-next.ensures.high_value) in
    let new : l.k ≡ suc (x.first + (l.k - suc x.first)) = omega arith in
    let more : l.k + 1 - suc x.first ≡ suc (l.k - suc x.first) = omega arith in
    let low = floats.next_low float64 c.requires _ (omega (arith, c.loop-k-test)) l.k new c.loop-k-test.true l.low in
    let high = floats.next-high float64 c.requires _ (omega (arith, c.loop-k-test)) l.k new c.loop-k-test.true l.high in (
      omega arith,
      omega (arith, c.loop-k-test),
      omega (arith, l.invariant.2),
      rw more (low _ _ l.invariant.3 (ap (of_bits binary64) next-low) c.lower_f64-low.ensures),
      rw more (high _ _ l.invariant.4 (ap (of_bits binary64) next-high) c.higher_f64-high.ensures),
    )

pub float_from_bits-low : goal.float_from_bits-low
float_from_bits-low c =
    let x = c.args in
    let byte : (j : ℕ) → get_or x.level.now j 0 < 256 = λ j. (c.type_inv.level j).fits in
    floats.low-number float64 c.requires _ _ (omega arith) (omega (arith, c.requires.some)) (c.ends_at-ends.ensures.low_value)

pub float_from_bits-high : goal.float_from_bits-high
float_from_bits-high c =
    let x = c.args in
    let byte : (j : ℕ) → get_or x.level.now j 0 < 256 = λ j. (c.type_inv.level j).fits in
    floats.high-number float64 c.requires _ _ (omega arith) (omega (arith, c.requires.some)) (c.ends_at-ends.ensures.high_value)

pub float_from_bits-next : goal.float_from_bits-next
float_from_bits-next c =
    let x = c.args in
    let byte : (j : ℕ) → get_or x.level.now j 0 < 256 = λ j. (c.type_inv.level j).fits in
    floats.low-number float64 c.requires _ _ (omega (arith, c.loop-k.invariant.0)) c.loop-k-test.true (rw c.loop-k.invariant.2 at (c.ends_at-next.ensures.low_value))

pub float_from_bits-next-in-loop-k : goal.float_from_bits-next-in-loop-k
float_from_bits-next-in-loop-k c =
    let x = c.args in
    let byte : (j : ℕ) → get_or x.level.now j 0 < 256 = λ j. (c.type_inv.level j).fits in
    floats.high-number float64 c.requires _ _ (omega (arith, c.loop-k.invariant.0)) c.loop-k-test.true (rw c.loop-k.invariant.2 at (c.ends_at-next.ensures.high_value))

pub float_to_bits-result : goal.float_to_bits-result
float_to_bits-result c =
    let x = c.args in
    let more = c.loop-k.k - suc x.first in
    let within : suc (x.first + more) ≤ x.first + x.count = omega (arith, c.loop-k.invariant) in
    floats.low_value float64 c.requires more within (λ j. (c.type_inv.level j).fits) _ c.loop-k.invariant.3

pub float_to_bits-result-2 : goal.float_to_bits-result-2
float_to_bits-result-2 c =
    let x = c.args in
    let more = c.loop-k.k - suc x.first in
    let within : suc (x.first + more) ≤ x.first + x.count = omega (arith, c.loop-k.invariant) in
    floats.high_value float64 c.requires more within (λ j. (c.type_inv.level j).fits) _ c.loop-k.invariant.4

pub returns : goal.returns
returns c =
    let x = c.args in
    let more = c.loop-k.k - suc x.first in
    let byte : (j : ℕ) → get_or x.level.now j 0 < 256 = λ j. (c.type_inv.level j).fits in
    let within : suc (x.first + more) ≤ x.first + x.count = omega (arith, c.loop-k.invariant) in
    let all : more ≡ x.count - 1 = omega (arith, c.loop-k-test, c.loop-k.invariant) in (
      floats.low_bits float64 c.requires more within byte _ c.loop-k.invariant.3 ∙ rw all,
      floats.high_bits float64 c.requires more within byte _ c.loop-k.invariant.4 ∙ rw all,
    )
