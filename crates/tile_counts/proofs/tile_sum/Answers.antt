-- `tile_counts::tile_sum` meets its contract: what `sum_at` answers for as many tiles as the check does. Assumes
-- nothing.
use Rattle.std.proofs.Common.{rules}
use Rattle.lists.specs.Lists.{list_refusal}
use Rattle.tile_counts.specs.Counts.{sum_of}
use Rattle.tile_metadata.proofs.Telling.{asked}
use Rattle.tile_counts.proofs.tile_sum.Goals as goal

pub returns : goal.returns
returns c =
    let a = c.args in
    asked (λ n. sum_of n a.body.now a.i) 0 a.tiles (list_refusal a.tiles 8 a.body.now) _ _ _ c.open_sums.ensures c.map_or.ensures (λ m q. search (rules, q))
