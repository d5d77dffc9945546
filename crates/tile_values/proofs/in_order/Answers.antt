-- `tile_values::in_order` meets its contract: each arm's kind is the one that was asked for. Assumes nothing.
use Rattle.std.proofs.Common.{rules}
use Rattle.description.specs.declared.Kind.TheVariants.{Int32, Int64, Float32, Float64, Uint64}
use Rattle.tile_values.proofs.Pairs.{Ordered}
use Rattle.tile_values.proofs.in_order.Goals as goal

pub returns-in-Int32 : goal.returns-in-Int32
returns-in-Int32 c = λ e i l.
    let h = c.all_hold.ensures.holds e i l in
    rw c.in-Int32.is (let g : Ordered Int32 c.args.mins.now c.args.maxes.now i = search (rules, h) in g)

pub returns-in-Int64 : goal.returns-in-Int64
returns-in-Int64 c = λ e i l.
    let h = c.all_hold_by_eights.ensures.holds e i l in
    rw c.in-Int64.is (let g : Ordered Int64 c.args.mins.now c.args.maxes.now i = search (rules, h) in g)

pub returns-in-Float32 : goal.returns-in-Float32
returns-in-Float32 c = λ e i l.
    let h = c.all_hold-in-Float32.ensures.holds e i l in
    rw c.in-Float32.is (let g : Ordered Float32 c.args.mins.now c.args.maxes.now i = search (rules, h) in g)

pub returns-in-Float64 : goal.returns-in-Float64
returns-in-Float64 c = λ e i l.
    let h = c.all_hold-in-Float64.ensures.holds e i l in
    rw c.in-Float64.is (let g : Ordered Float64 c.args.mins.now c.args.maxes.now i = search (rules, h) in g)

pub returns-in-Uint64 : goal.returns-in-Uint64
returns-in-Uint64 c = λ e i l.
    let h = c.all_hold_by_eights-in-Uint64.ensures.holds e i l in
    rw c.in-Uint64.is (let g : Ordered Uint64 c.args.mins.now c.args.maxes.now i = search (rules, h) in g)
