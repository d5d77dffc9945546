-- `tile_values::check_nans` meets its contract: where no value is a NaN none breaks the rule, and else the first is looked
-- for. Assumes nothing.
use Rattle.std.proofs.Common.{sym}
use Rattle.answers.specs.Refusals.{not_a_number}
use Rattle.answers.specs.Told.{told}
use Rattle.description.specs.Kinds.{end_bytes, is_nan}
use Rattle.tile_metadata.proofs.Turns.{none-break}
use Rattle.tile_values.specs.Values.{pattern}
use Rattle.tile_values.proofs.check_nans.Goals as goal

pub returns-then-no_nans : goal.returns-then-no_nans
unfolding told
returns-then-no_nans c =
    let a = c.args in
    sym (none-break (λ i. is_nan a.kind (pattern a.kind a.body.now i)) not_a_number (end_bytes a.kind) a.n (c.no_nans.ensures c.if-no_nans.true))
