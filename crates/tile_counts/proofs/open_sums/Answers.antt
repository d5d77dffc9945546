-- `tile_counts::open_sums` meets its contract: a refusal, or n. Assumes nothing.
use Rattle.answers.proofs.Told.{told-err}
use Rattle.tile_metadata.proofs.Telling.{values-exit, values-told}
use Rattle.tile_counts.proofs.open_sums.Goals as goal

pub returns-in_err-check_list : goal.returns-in_err-check_list
returns-in_err-check_list c =
    values-exit _ _ c.from_residual.ensures.1 c.args.tiles (told-err c.check_list.ensures c.in_err-check_list.was)

pub returns : goal.returns
returns c = values-told c.args.tiles c.check_list.ensures c.in_ok-check_list.was
