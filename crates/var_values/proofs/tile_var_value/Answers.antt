-- `var_values::tile_var_value` meets its contract: what `var_value_at` answers for as many tiles as the check does.
-- Assumes nothing.
use Rattle.std.proofs.Common.{[], ◌∙◌}
use Rattle.var_values.specs.VarValues.{var_values_refusal, var_value_of}
use Rattle.tile_metadata.proofs.Telling.{asked_ok, asked-err}
use Rattle.var_values.proofs.tile_var_value.Goals as goal

pub returns-in-Ok : goal.returns-in-Ok
returns-in-Ok c =
    let a = c.args in
    c.var_value_at.ensures ∙ asked_ok (λ n. var_value_of n a.body.now a.i) [] a.tiles (var_values_refusal a.tiles a.body.now) c.in-Ok.ensures

pub returns-in-Err : goal.returns-in-Err
returns-in-Err c =
    let a = c.args in
    asked-err (λ n. var_value_of n a.body.now a.i) [] a.tiles (var_values_refusal a.tiles a.body.now) _ c.in-Err.ensures
