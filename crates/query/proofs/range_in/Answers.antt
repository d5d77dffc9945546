-- `query::range_in` meets its contract: the part that is read has the range whole, and a float's ends are no NaN's, so they have a value each.
-- Assumes nothing.
use Prim.Native.Nat.{◌+◌, ◌-◌}
use mathlib.Core.Path.{ap, ◌∙◌}
use native.Mathlib.Omega.{arith}
use lib.Ieee.{binary32, binary64, of_bits, nan_bits}
use lib.ListN.{take, drop}
use Rattle.order.proofs.Read.{no_nan}
use Rattle.description.specs.declared.Kind.TheVariants.{Int32, Int64, Float32, Float64, Uint64}
use Rattle.description.specs.Kinds.{is_nan}
use Rattle.ranges.specs.declared.Range.TheVariants.{F32, F64}
use Rattle.ranges.specs.Ranges.{ends_at}
use Rattle.ranges.proofs.Containing.{numbers}
use Rattle.ranges.proofs.Reading.{known-part}
use Rattle.query.proofs.Sides.{part-numbers}
use Rattle.query.proofs.range_in.Goals as goal

pub float_from_bits-result : goal.float_from_bits-result
unfolding is_nan ends_at
float_from_bits-result c =
    let at = c.args.at in
    let none = part-numbers Float32 c.args.bytes.now at (at + 8 - at) c.in-Float32.is c.requires.kind_in_bounds (omega arith) c.requires.at_value in
    no_nan binary32 _ (ap (nan_bits binary32) c.pair_at-ends.ensures.0 ∙ (numbers (ends_at Float32 (take (at + 8 - at) (drop at c.args.bytes.now)) 0) none).0)

pub float_from_bits-result-in-Float32 : goal.float_from_bits-result-in-Float32
unfolding is_nan ends_at
float_from_bits-result-in-Float32 c =
    let at = c.args.at in
    let none = part-numbers Float32 c.args.bytes.now at (at + 8 - at) c.in-Float32.is c.requires.kind_in_bounds (omega arith) c.requires.at_value in
    no_nan binary32 _ (ap (nan_bits binary32) c.pair_at-ends.ensures.1 ∙ (numbers (ends_at Float32 (take (at + 8 - at) (drop at c.args.bytes.now)) 0) none).1)

pub float_from_bits-result-in-Float64 : goal.float_from_bits-result-in-Float64
unfolding is_nan ends_at
float_from_bits-result-in-Float64 c =
    let at = c.args.at in
    let none = part-numbers Float64 c.args.bytes.now at (at + 16 - at) c.in-Float64.is c.requires.kind_in_bounds (omega arith) c.requires.at_value in
    no_nan binary64 _ (ap (nan_bits binary64) c.pair_at-ends-in-Float64.ensures.0 ∙ (numbers (ends_at Float64 (take (at + 16 - at) (drop at c.args.bytes.now)) 0) none).0)

pub float_from_bits-result-in-Float64-2 : goal.float_from_bits-result-in-Float64-2
unfolding is_nan ends_at
float_from_bits-result-in-Float64-2 c =
    let at = c.args.at in
    let none = part-numbers Float64 c.args.bytes.now at (at + 16 - at) c.in-Float64.is c.requires.kind_in_bounds (omega arith) c.requires.at_value in
    no_nan binary64 _ (ap (nan_bits binary64) c.pair_at-ends-in-Float64.ensures.1 ∙ (numbers (ends_at Float64 (take (at + 16 - at) (drop at c.args.bytes.now)) 0) none).1)

pub returns-in-Int32 : goal.returns-in-Int32
returns-in-Int32 c =
    let at = c.args.at in
    known-part Int32 c.args.bytes.now at c.in-Int32.is c.requires.kind_in_bounds (at + 8 - at) (omega arith) c.read.ensures

pub returns-in-Int64 : goal.returns-in-Int64
returns-in-Int64 c =
    let at = c.args.at in
    known-part Int64 c.args.bytes.now at c.in-Int64.is c.requires.kind_in_bounds (at + 16 - at) (omega arith) c.read-in-Int64.ensures

pub returns-in-Float32 : goal.returns-in-Float32
unfolding ends_at
returns-in-Float32 c =
    let at = c.args.at in
    let e = c.pair_at-ends.ensures in
    known-part Float32 c.args.bytes.now at c.in-Float32.is c.requires.kind_in_bounds (at + 8 - at) (omega arith) (λ i. F32 (of_bits binary32 (e.0 i)) (of_bits binary32 (e.1 i)))

pub returns-in-Float64 : goal.returns-in-Float64
unfolding ends_at
returns-in-Float64 c =
    let at = c.args.at in
    let e = c.pair_at-ends-in-Float64.ensures in
    known-part Float64 c.args.bytes.now at c.in-Float64.is c.requires.kind_in_bounds (at + 16 - at) (omega arith) (λ i. F64 (of_bits binary64 (e.0 i)) (of_bits binary64 (e.1 i)))

pub returns-in-Uint64 : goal.returns-in-Uint64
returns-in-Uint64 c =
    let at = c.args.at in
    known-part Uint64 c.args.bytes.now at c.in-Uint64.is c.requires.kind_in_bounds (at + 16 - at) (omega arith) c.read-in-Uint64.ensures
