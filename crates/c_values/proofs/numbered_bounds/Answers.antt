-- `c_values::numbered_bounds` meets its contract: by whether the number is a kind's. Assumes nothing.
use Rattle.std.proofs.Common.{◌∙◌}
use Rattle.tile_values.specs.Values.{bounds_answer}
use Rattle.c_values.specs.Numbered.{numbered_bounds}
use Rattle.c_values.proofs.OfKind.{some_kind, no_kind}
use Rattle.c_values.proofs.numbered_bounds.Goals as goal

pub returns-in-Some : goal.returns-in-Some
unfolding numbered_bounds
returns-in-Some c =
    let a = c.args in
    c.tile_bounds.ensures ∙ some_kind a.kind (λ k. bounds_answer k a.tiles a.mins.now a.maxes.now a.tile) _ c.in-Some.ensures

pub returns-in-None : goal.returns-in-None
unfolding numbered_bounds
returns-in-None c =
    let a = c.args in
    no_kind a.kind (λ k. bounds_answer k a.tiles a.mins.now a.maxes.now a.tile) _ c.in-None.ensures
