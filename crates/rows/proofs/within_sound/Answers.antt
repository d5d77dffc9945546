-- `rows::within_sound` meets its contract: each part that is read has its range whole, and the other range is finite. Assumes nothing.
use mathlib.Core.Path.{refl}
use Prim.Native.Nat.{◌+◌, ◌-◌}
use lib.ListN.{take, drop}
use native.Mathlib.Omega.{arith}
use Rattle.description.specs.declared.Kind.TheVariants.{Float32, Float64}
use Rattle.ranges.proofs.Reading.{known-part}
use Rattle.ranges.proofs.Containing.{numbers}
use Rattle.ranges.specs.Ranges.{ends_at}
use Rattle.description.specs.Kinds.{is_nan}
use Rattle.rows.proofs.Held.{read-within, finite-read, part-nan, floats32, floats64}
use Rattle.rows.proofs.within_sound.Goals as goal

pub floats_in-ends-requires : goal.floats_in-ends-requires
unfolding is_nan ends_at
floats_in-ends-requires c =
    let at = c.args.at in
    numbers (ends_at Float32 (take (at + 8 - at) (drop at c.args.outer.now)) 0)
    (part-nan Float32 c.args.outer.now at (at + 8 - at) c.in-Float32.is c.requires.1.0 (omega arith) c.requires.1.1)

pub between-requires : goal.between-requires
between-requires c =
    let at = c.args.at in
    finite-read _ c.args.bytes.now c.args.outer.now at (λ j. (c.type_inv.bytes j).fits) (λ j. (c.type_inv.outer j).fits) _
    (known-part Float32 c.args.outer.now at c.in-Float32.is c.requires.1.0 (at + 8 - at) (omega arith) (floats32 _ c.floats_in-ends.ensures)) c.requires.1.1

pub floats_in-ends-requires-in-Float64 : goal.floats_in-ends-requires-in-Float64
unfolding is_nan ends_at
floats_in-ends-requires-in-Float64 c =
    let at = c.args.at in
    numbers (ends_at Float64 (take (at + 16 - at) (drop at c.args.outer.now)) 0)
    (part-nan Float64 c.args.outer.now at (at + 16 - at) c.in-Float64.is c.requires.1.0 (omega arith) c.requires.1.1)

pub between-requires-in-Float64 : goal.between-requires-in-Float64
between-requires-in-Float64 c =
    let at = c.args.at in
    finite-read _ c.args.bytes.now c.args.outer.now at (λ j. (c.type_inv.bytes j).fits) (λ j. (c.type_inv.outer j).fits) _
    (known-part Float64 c.args.outer.now at c.in-Float64.is c.requires.1.0 (at + 16 - at) (omega arith) (floats64 _ c.floats_in-ends-in-Float64.ensures)) c.requires.1.1

pub between-requires-in_default : goal.between-requires-in_default
between-requires-in_default c =
    let at = c.args.at in
    finite-read c.args.kind c.args.bytes.now c.args.outer.now at (λ j. (c.type_inv.bytes j).fits) (λ j. (c.type_inv.outer j).fits) _
    (known-part c.args.kind c.args.outer.now at refl c.requires.1.0 (at + c.range_bytes.result - at) (omega (arith, c.range_bytes.ensures)) c.read.ensures)
    c.requires.1.1

pub returns-in-Float32 : goal.returns-in-Float32
returns-in-Float32 c =
    let at = c.args.at in
    let told = c.in-Float32.is in
    read-within _ c.args.bytes.now c.args.outer.now at (λ j. (c.type_inv.bytes j).fits) (λ j. (c.type_inv.outer j).fits) _ _
    (known-part Float32 c.args.bytes.now at told c.requires.0 (at + 8 - at) (omega arith) c.read-range.ensures)
    (known-part Float32 c.args.outer.now at told c.requires.1.0 (at + 8 - at) (omega arith) (floats32 _ c.floats_in-ends.ensures)) c.between.ensures

pub returns-in-Float64 : goal.returns-in-Float64
returns-in-Float64 c =
    let at = c.args.at in
    let told = c.in-Float64.is in
    read-within _ c.args.bytes.now c.args.outer.now at (λ j. (c.type_inv.bytes j).fits) (λ j. (c.type_inv.outer j).fits) _ _
    (known-part Float64 c.args.bytes.now at told c.requires.0 (at + 16 - at) (omega arith) c.read-range-in-Float64.ensures)
    (known-part Float64 c.args.outer.now at told c.requires.1.0 (at + 16 - at) (omega arith) (floats64 _ c.floats_in-ends-in-Float64.ensures)) c.between-in-Float64.ensures

pub returns-in_default : goal.returns-in_default
returns-in_default c =
    let at = c.args.at in
    read-within c.args.kind c.args.bytes.now c.args.outer.now at (λ j. (c.type_inv.bytes j).fits) (λ j. (c.type_inv.outer j).fits) _ _
    (known-part c.args.kind c.args.bytes.now at refl c.requires.0 (at + c.range_bytes.result - at) (omega (arith, c.range_bytes.ensures)) c.read-range-in_default.ensures)
    (known-part c.args.kind c.args.outer.now at refl c.requires.1.0 (at + c.range_bytes.result - at) (omega (arith, c.range_bytes.ensures)) c.read.ensures)
    c.between-in_default.ensures
