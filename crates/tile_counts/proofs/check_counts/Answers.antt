-- `tile_counts::check_counts` meets its contract. The header's refusal ends the check; where every count is at most its
-- tile's cells nothing is said, and else the first that is above is looked for. Assumes nothing.
use Rattle.std.proofs.Common.{sym, ◌∙◌, arith}
use Rattle.std.proofs.lemmas.Result.{err_from_is_err_and}
use Rattle.answers.specs.Told.{told}
use Rattle.answers.proofs.Told.{told-err, err-some, ok-clear}
use Rattle.lists.proofs.Header.{sound}
use Rattle.entries.proofs.Entries.{header-stops}
use Rattle.tile_counts.specs.Counts.{counts_refusal}
use Rattle.tile_counts.proofs.Counts.{none_above}
use Rattle.tile_counts.proofs.check_counts.Goals as goal

pub returns-in_err-check_list : goal.returns-in_err-check_list
unfolding counts_refusal
returns-in_err-check_list c =
    let p = err_from_is_err_and c.from_residual.result c.from_residual.ensures.1 in
    let header = c.check_list.ensures in
    let was = c.in_err-check_list.was in
    rw (p.1, p.2) (told-err header was ∙ sym (header-stops _ _ _ _ (err-some header was)))

pub returns-then-all_within : goal.returns-then-all_within
unfolding told
returns-then-all_within c =
    sym (none_above _ _ _ _ (ok-clear c.check_list.ensures c.in_ok-check_list.was) (c.all_within.ensures c.if-all_within.true))

pub all_within-requires-clause-le_n : goal.all_within-requires-clause-le_n
all_within-requires-clause-le_n c =
    let known = sound _ 8 _ (ok-clear c.check_list.ensures c.in_ok-check_list.was) in
    omega (arith, known.some)

pub all_within-requires-clause-n_in_bounds : goal.all_within-requires-clause-n_in_bounds
all_within-requires-clause-n_in_bounds c =
    let known = sound _ 8 _ (ok-clear c.check_list.ensures c.in_ok-check_list.was) in
    omega (arith, known.bytes)

pub first_above-requires : goal.first_above-requires
first_above-requires c = ok-clear c.check_list.ensures c.in_ok-check_list.was
