-- `leaves::sound_at` meets its contract: what the test of floats says, and of any other ends their order. Assumes nothing.
use mathlib.Core.Path.{◌≡◌, refl, ap, ◌∙◌}
use mathlib.Core.Bool.{true}
use mathlib.Core.List.{List}
use Prim.Native.Nat.{ℕ, ◌+◌, ◌-◌, ◌≤◌, ◌^◌, ◌<◌}
use native.Mathlib.Omega.{arith}
use lib.Dec.{leb}
use lib.ListN.{length, get_or, take, drop}
use Rattle.description.specs.declared.Kind.{Kind}
use Rattle.description.specs.declared.Kind.TheVariants.{Int32, Int64, Float32, Float64, Uint64}
use Rattle.description.specs.Kinds.{range_bytes, key, is_nan, is_infinite, at_most}
use Rattle.ranges.specs.Ranges.{Ends, ends_at}
use Rattle.ranges.proofs.Reading.{part-ends, ends-at-fit}
use Rattle.leaves.specs.Code.Sound.{SoundEnds}
use Rattle.leaves.proofs.Ends.{low-fitted, high-fitted}
use Rattle.leaves.proofs.Floats.{sound32, sound64}
use Rattle.leaves.proofs.sound_at.Goals as goal

-- ends that are no floats, in order
in_order : (k : Kind) (a b : ℕ) → (k ≡ Float32 → ⊥) → (k ≡ Float64 → ⊥) → leb (key k a) (key k b) ≡ true → SoundEnds k a b
unfolding at_most is_nan is_infinite
in_order Int32 a b f g h = (h, refl, refl)
in_order Int64 a b f g h = (h, refl, refl)
in_order Float32 a b f g h = absurd (f refl)
in_order Float64 a b f g h = absurd (g refl)
in_order Uint64 a b f g h = (h, refl, refl)

-- the ends as they are read, of a part that has them
module _ (k : Kind) (bytes : List ℕ) (at w : ℕ) (size : w ≡ range_bytes k) (fits : at + range_bytes k ≤ length bytes) where
  read-low : {x : ℕ} → x ≡ (ends_at k (take (at + w - at) (drop at bytes)) 0).low → x ≡ (ends_at k bytes at).low
  read-low e = e ∙ ap (λ (r : Ends). r.low) (part-ends k bytes at (at + w - at) (omega arith) (omega arith))

  read-high : {x : ℕ} → x ≡ (ends_at k (take (at + w - at) (drop at bytes)) 0).high → x ≡ (ends_at k bytes at).high
  read-high e = e ∙ ap (λ (r : Ends). r.high) (part-ends k bytes at (at + w - at) (omega arith) (omega arith))

-- each end of a range of floats is a number of so many bytes
four : (k : Kind) (bytes : List ℕ) (at : ℕ) → ((j : ℕ) → get_or bytes j 0 < 256) → k ≡ Float32
    → ((ends_at k bytes at).low < 256 ^ 4) × ((ends_at k bytes at).high < 256 ^ 4)
four k bytes at byte e = rw e (ends-at-fit bytes byte Float32 at)

eight : (k : Kind) (bytes : List ℕ) (at : ℕ) → ((j : ℕ) → get_or bytes j 0 < 256) → k ≡ Float64
    → ((ends_at k bytes at).low < 256 ^ 8) × ((ends_at k bytes at).high < 256 ^ 8)
eight k bytes at byte e = rw e (ends-at-fit bytes byte Float64 at)

pub overflow_cast-ends : goal.overflow_cast-ends
overflow_cast-ends c =
    let x = c.args in
    let low = read-low x.kind x.bytes.now x.at c.range_bytes.result c.range_bytes.ensures c.requires c.patterns_at-ends.ensures.low_value in
    record { fits = rw low (four x.kind x.bytes.now x.at (λ j. (c.type_inv.bytes j).fits) c.in-Float32.is).0 }

pub overflow_cast-ends-in-Float32 : goal.overflow_cast-ends-in-Float32
overflow_cast-ends-in-Float32 c =
    let x = c.args in
    let high = read-high x.kind x.bytes.now x.at c.range_bytes.result c.range_bytes.ensures c.requires c.patterns_at-ends.ensures.high_value in
    record { fits = rw high (four x.kind x.bytes.now x.at (λ j. (c.type_inv.bytes j).fits) c.in-Float32.is).1 }

pub returns-in-Float32 : goal.returns-in-Float32
returns-in-Float32 c t =
    let x = c.args in
    let fit = four x.kind x.bytes.now x.at (λ j. (c.type_inv.bytes j).fits) c.in-Float32.is in
    let low = read-low x.kind x.bytes.now x.at c.range_bytes.result c.range_bytes.ensures c.requires c.patterns_at-ends.ensures.low_value in
    let high = read-high x.kind x.bytes.now x.at c.range_bytes.result c.range_bytes.ensures c.requires c.patterns_at-ends.ensures.high_value in
    rw (← low, ← high, c.in-Float32.is) (sound32 _ _ (record { fits = rw low fit.0 }) (record { fits = rw high fit.1 }) (c.sound_floats.ensures t))

pub returns-in-Float64 : goal.returns-in-Float64
returns-in-Float64 c t =
    let x = c.args in
    let fit = eight x.kind x.bytes.now x.at (λ j. (c.type_inv.bytes j).fits) c.in-Float64.is in
    let low = read-low x.kind x.bytes.now x.at c.range_bytes.result c.range_bytes.ensures c.requires c.patterns_at-ends.ensures.low_value in
    let high = read-high x.kind x.bytes.now x.at c.range_bytes.result c.range_bytes.ensures c.requires c.patterns_at-ends.ensures.high_value in
    rw (← low, ← high, c.in-Float64.is) (sound64 _ _ (record { fits = rw low fit.0 }) (record { fits = rw high fit.1 }) (c.sound_floats-in-Float64.ensures t))

pub returns-in_default : goal.returns-in_default
returns-in_default c t =
    let x = c.args in
    let byte : (j : ℕ) → get_or x.bytes.now j 0 < 256 = λ j. (c.type_inv.bytes j).fits in
    let read-l = read-low x.kind x.bytes.now x.at c.range_bytes.result c.range_bytes.ensures c.requires c.patterns_at-ends.ensures.low_value in
    let read-h = read-high x.kind x.bytes.now x.at c.range_bytes.result c.range_bytes.ensures c.requires c.patterns_at-ends.ensures.high_value in
    let low = c.key_of.ensures ∙ ap (key x.kind) (low-fitted x.bytes.now byte x.kind x.at read-l refl) in
    let high = c.key_of-in_default.ensures ∙ ap (key x.kind) (high-fitted x.bytes.now byte x.kind x.at read-h refl) in
    in_order x.kind _ _ c.in_default.not-Float32 c.in_default.not-Float64 (rw (low, high) at t)
