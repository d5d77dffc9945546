-- `var_values::open_var_values` meets its contract: a refusal, or n. Assumes nothing.
use Rattle.answers.proofs.Told.{told-err}
use Rattle.tile_metadata.proofs.Telling.{values-exit, values-told}
use Rattle.var_values.proofs.open_var_values.Goals as goal

pub returns-in_err-check_var_values : goal.returns-in_err-check_var_values
returns-in_err-check_var_values c =
    values-exit _ _ c.from_residual.ensures.1 c.args.tiles (told-err c.check_var_values.ensures c.in_err-check_var_values.was)

pub returns : goal.returns
returns c = values-told c.args.tiles c.check_var_values.ensures c.in_ok-check_var_values.was
