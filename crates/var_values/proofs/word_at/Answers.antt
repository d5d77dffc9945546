-- `var_values::word_at` meets its contract: the bytes of the part are those of the whole from the place on. Assumes nothing.
use Rattle.std.proofs.Common.{◌+◌, ◌*◌, ◌∙◌}
use Rattle.tile_metadata.proofs.Turns.{part}
use Rattle.var_values.proofs.word_at.Goals as goal

pub returns : goal.returns
returns c = c.u64_at.ensures ∙ part c.args.body.now (8 + 8 * c.args.i) 8
