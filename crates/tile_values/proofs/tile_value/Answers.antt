-- `tile_values::tile_value` meets its contract: what `value_at` answers for as many tiles as the check does. Assumes
-- nothing.
use Rattle.std.proofs.Common.{rules}
use Rattle.tile_values.specs.Values.{values_refusal, pattern_of}
use Rattle.tile_metadata.proofs.Telling.{asked}
use Rattle.tile_values.proofs.tile_value.Goals as goal

pub returns : goal.returns
returns c =
    let a = c.args in
    asked (λ n. pattern_of a.kind n a.body.now a.i) 0 a.tiles (values_refusal a.kind a.tiles a.body.now) _ _ _ c.open_values.ensures c.map_or.ensures (λ m q. search (rules, q))
