-- `entries::check_entries` meets its contract: the header's refusal ends the check, and else the loop decides.
-- Assumes nothing.
use Rattle.std.proofs.Common.{arith}
use Rattle.std.proofs.lemmas.Result.{err_from_is_err_and}
use Rattle.answers.specs.Told.{told}
use Rattle.answers.proofs.Told.{ok-clear, stops}
use Rattle.lists.specs.Lists.{entries_refusal_by}
use Rattle.lists.proofs.Header.{sound}
use Rattle.entries.proofs.Entries.{entries-decide}
use Rattle.entries.proofs.check_entries.Goals as goal

pub returns-in_err-check_list : goal.returns-in_err-check_list
unfolding told entries_refusal_by
returns-in_err-check_list g c =
    let p = err_from_is_err_and c.from_residual.result c.from_residual.ensures.1 in
    rw (p.1, p.2) (stops c.check_list.ensures _ c.in_err-check_list.was)

pub scan-requires : goal.scan-requires
scan-requires g c =
    let known = sound _ 8 _ (ok-clear c.check_list.ensures c.in_ok-check_list.was) in
    omega arith

pub returns : goal.returns
returns g c =
    rw (entries-decide _ _ _ _ (ok-clear c.check_list.ensures c.in_ok-check_list.was)) c.scan.ensures
