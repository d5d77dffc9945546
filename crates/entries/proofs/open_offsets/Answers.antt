-- `entries::open_offsets` meets its contract: the check's refusal, or n where there is none; and what holds of the extents of an
-- accepted list. Assumes nothing.
use Rattle.answers.proofs.Told.{told-err, told-ok, ok-clear}
use Rattle.lists.specs.Offsets.{told_tiles}
use Rattle.lists.proofs.Telling.{refused-tiles}
use Rattle.entries.proofs.Extents.{extents, accepted}
use Rattle.entries.proofs.open_offsets.Goals as goal

pub returns-in_err-check_offsets-clause-answer : goal.returns-in_err-check_offsets-clause-answer
returns-in_err-check_offsets-clause-answer c =
    refused-tiles c.args.tiles _ _ c.from_residual.ensures.1 (told-err c.check_offsets.ensures c.in_err-check_offsets.was)

pub returns-in_err-check_offsets-clause-extents : goal.returns-in_err-check_offsets-clause-extents
returns-in_err-check_offsets-clause-extents c =
    let told = refused-tiles c.args.tiles _ _ c.from_residual.ensures.1 (told-err c.check_offsets.ensures c.in_err-check_offsets.was) in
    λ z. extents _ _ _ (accepted c.args.tiles _ told z)

pub returns-clause-answer : goal.returns-clause-answer
unfolding told_tiles
returns-clause-answer c = rw (told-ok c.check_offsets.ensures c.in_ok-check_offsets.was)

pub returns-clause-extents : goal.returns-clause-extents
returns-clause-extents c = λ _. extents _ _ _ (ok-clear c.check_offsets.ensures c.in_ok-check_offsets.was)
