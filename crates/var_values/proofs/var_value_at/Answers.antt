-- `var_values::var_value_at` meets its contract: the part that is told lies in the body. Assumes nothing.
use mathlib.Core.Path.{◌≡◌, ap, ◌∙◌}
use Prim.Native.Nat.{ℕ, ◌+◌, ◌-◌, ◌≤◌}
use native.Mathlib.Omega.{arith}
use lib.ListN.{length, take, drop}
use Rattle.var_values.specs.VarValues.{var_value_of}
use Rattle.var_values.proofs.VarValues.{place-within}
use Rattle.var_values.proofs.var_value_at.Goals as goal

pub returns : goal.returns
unfolding var_value_of
returns c =
    let told = c.var_place_at-place in
    let body = c.args.body.now in
    let e : told.result.offset + told.result.extent - told.result.offset ≡ told.result.extent = omega arith in
    ap (λ (m : ℕ). take m (drop told.result.offset body)) e ∙ rw told.ensures

pub overflow_add-end : goal.overflow_add-end
overflow_add-end c =
    let within : c.var_place_at-place.result.offset + c.var_place_at-place.result.extent ≤ length c.args.body.now
    = let a = c.args in
    rw (← c.var_place_at-place.ensures) at (place-within a.tiles a.body.now a.i) in
    record { fits = omega (arith, within) }

pub slice_bounds-result-end : goal.slice_bounds-result-end
slice_bounds-result-end c =
    let within : c.var_place_at-place.result.offset + c.var_place_at-place.result.extent ≤ length c.args.body.now
    = let a = c.args in
    rw (← c.var_place_at-place.ensures) at (place-within a.tiles a.body.now a.i) in
    omega (arith, within)
