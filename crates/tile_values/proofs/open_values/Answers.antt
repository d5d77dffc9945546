-- `tile_values::open_values` meets its contract: a refusal, or n. Assumes nothing.
use Rattle.answers.proofs.Told.{told-err}
use Rattle.tile_metadata.proofs.Telling.{values-exit, values-told}
use Rattle.tile_values.proofs.open_values.Goals as goal

pub returns-in_err-check_values : goal.returns-in_err-check_values
returns-in_err-check_values c =
    values-exit _ _ c.from_residual.ensures.1 c.args.tiles (told-err c.check_values.ensures c.in_err-check_values.was)

pub returns : goal.returns
returns c = values-told c.args.tiles c.check_values.ensures c.in_ok-check_values.was
