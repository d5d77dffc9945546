-- `c_values::numbered_values` meets its contract: by whether the number is a kind's. Assumes nothing.
use Rattle.std.proofs.Common.{◌∙◌}
use Rattle.answers.specs.Told.{number_of}
use Rattle.tile_metadata.specs.Bodies.{told_values}
use Rattle.tile_values.specs.Values.{values_answer}
use Rattle.c_values.specs.Numbered.{numbered_values}
use Rattle.c_values.proofs.OfKind.{some_kind, no_kind}
use Rattle.c_values.proofs.numbered_values.Goals as goal

pub returns-in-Some : goal.returns-in-Some
unfolding numbered_values
returns-in-Some c =
    let a = c.args in
    c.open_values.ensures ∙ some_kind a.kind (λ k. values_answer k a.tiles a.body.now) _ c.in-Some.ensures

pub returns-in-None : goal.returns-in-None
unfolding numbered_values told_values number_of
returns-in-None c =
    let a = c.args in
    rw c.at.ensures (no_kind a.kind (λ k. values_answer k a.tiles a.body.now) _ c.in-None.ensures)
