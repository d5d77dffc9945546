-- `query::has_nan` meets its contract: the ends in the part that has the range; an integer's are no NaN's. Assumes nothing.
use Prim.Native.Nat.{◌+◌, ◌-◌}
use native.Mathlib.Omega.{arith}
use borrow.Author.Rules.{rules}
use Rattle.description.specs.declared.Kind.TheVariants.{Float32, Float64}
use Rattle.description.specs.Kinds.{is_nan}
use Rattle.ranges.specs.Ranges.{ends_at, has_nan}
use Rattle.query.proofs.Sides.{part-told, no-float}
use Rattle.query.proofs.has_nan.Goals as goal

pub returns-in-Float32 : goal.returns-in-Float32
unfolding has_nan is_nan ends_at
returns-in-Float32 c =
    let at = c.args.at in
    part-told Float32 c.args.bytes.now at (at + 8 - at) c.in-Float32.is c.requires (omega arith) c.have_nan.ensures

pub returns-in-Float64 : goal.returns-in-Float64
unfolding has_nan is_nan ends_at
returns-in-Float64 c =
    let at = c.args.at in
    part-told Float64 c.args.bytes.now at (at + 16 - at) c.in-Float64.is c.requires (omega arith) c.f64s_have_nan.ensures

pub returns-in-Int32 : goal.returns-in-Int32
returns-in-Int32 c = let x = c.args in no-float x.kind x.bytes.now x.at (search rules)
