-- `var_values::tile_var_place` meets its contract: what `var_place_at` answers for as many tiles as the check does.
-- Assumes nothing.
use Rattle.std.proofs.Common.{rules}
use Rattle.var_values.specs.VarValues.{var_values_refusal, nowhere, var_place_of}
use Rattle.tile_metadata.proofs.Telling.{asked}
use Rattle.var_values.proofs.tile_var_place.Goals as goal

pub returns : goal.returns
returns c =
    let a = c.args in
    asked (λ n. var_place_of n a.body.now a.i) nowhere a.tiles (var_values_refusal a.tiles a.body.now) _ _ _ c.open_var_values.ensures c.map_or.ensures (λ m q. search (rules, q))
