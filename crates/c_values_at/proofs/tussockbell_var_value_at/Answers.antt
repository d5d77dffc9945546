-- `c_values_at::tussockbell_var_value_at` meets its contract: the library's own answer, place by place, and the part that
-- it tells. Assumes nothing.
use Rattle.var_values.proofs.VarValues.{at_place}
use Rattle.c_values_at.proofs.tussockbell_var_value_at.Goals as goal

pub returns-clause-value : goal.returns-clause-value
returns-clause-value c =
    let a = c.args in
    rw c.var_place_at-r.ensures (at_place a.tiles a.body.now a.tile)
