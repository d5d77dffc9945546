-- `c_values::tussockbell_value` meets its contract: by whether the number is a kind's. Assumes nothing.
use Rattle.std.proofs.Common.{◌∙◌}
use Rattle.tile_values.specs.Values.{value_answer}
use Rattle.c_values.specs.Numbered.{numbered_value}
use Rattle.c_values.proofs.OfKind.{some_kind, no_kind}
use Rattle.c_values.proofs.tussockbell_value.Goals as goal

pub returns-in-Some : goal.returns-in-Some
unfolding numbered_value
returns-in-Some c =
    let a = c.args in
    c.tile_value.ensures ∙ some_kind a.kind (λ k. value_answer k a.tiles a.body.now a.tile) _ c.in-Some.ensures

pub returns-in-None : goal.returns-in-None
unfolding numbered_value
returns-in-None c =
    let a = c.args in
    no_kind a.kind (λ k. value_answer k a.tiles a.body.now a.tile) _ c.in-None.ensures
