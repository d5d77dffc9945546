-- `c_values::tussockbell_var_value` meets its contract: the library's own answer, place by place, and the part that it
-- tells. Assumes nothing.
use mathlib.Core.Path.{ap, ◌∙◌}
use Rattle.var_values.proofs.VarValues.{answer-at-place}
use Rattle.c_values.specs.Places.{part_places}
use Rattle.c_values.proofs.tussockbell_var_value.Goals as goal

pub returns-clause-value : goal.returns-clause-value
returns-clause-value c =
    let a = c.args in
    let e = c.part_places.ensures ∙ ap part_places c.tile_var_place.ensures in
    rw e (answer-at-place a.tiles a.body.now a.tile)
