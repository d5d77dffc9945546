-- `tile_values::no_nans` meets its contract: each arm's kind is the one that was asked for, and an integer's has no NaN.
-- Assumes nothing.
use Rattle.std.proofs.Common.{◌≡◌, false, sym, arith, rules}
use Rattle.description.specs.declared.Kind.TheVariants.{Float32, Float64}
use Rattle.description.specs.Kinds.{is_nan}
use Rattle.tile_values.specs.Values.{pattern}
use Rattle.tile_values.proofs.Values.{no_nan}
use Rattle.tile_values.proofs.no_nans.Goals as goal

pub returns-in-Float32 : goal.returns-in-Float32
returns-in-Float32 c = λ e i l.
    let h = c.all_hold.ensures.holds e i l in
    rw c.in-Float32.is (let g : is_nan Float32 (pattern Float32 c.args.body.now i) ≡ false = search (rules, h) in g)

pub returns-in-Float64 : goal.returns-in-Float64
returns-in-Float64 c = λ e i l.
    let h = c.all_hold-in-Float64.ensures.holds e i l in
    rw c.in-Float64.is (let g : is_nan Float64 (pattern Float64 c.args.body.now i) ≡ false = grind (arith, h) in g)

pub returns-in-Int32 : goal.returns-in-Int32
returns-in-Int32 c = λ e i l. sym (no_nan c.args.kind (pattern c.args.kind c.args.body.now i) c.in-Int32.is)
