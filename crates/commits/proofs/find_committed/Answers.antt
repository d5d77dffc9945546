-- `commits::find_committed` meets its contract. Assumes nothing.
use Rattle.commits.proofs.Answered.{no_lines, refused, accepted}
use Rattle.commits.proofs.find_committed.Goals as goal

pub index-requires : goal.index-requires
index-requires c = no_lines c.args.listing.now

pub returns-in_err-count-clause-answer : goal.returns-in_err-count-clause-answer
returns-in_err-count-clause-answer c =
    (refused c.args.listing.now c.args.time c.args.out.now c.from_residual.result _ c.from_residual.ensures.1 c.in_err-count.ensures).0

pub returns-in_err-count-clause-buffer : goal.returns-in_err-count-clause-buffer
returns-in_err-count-clause-buffer c =
    (refused c.args.listing.now c.args.time c.args.out.now c.from_residual.result _ c.from_residual.ensures.1 c.in_err-count.ensures).1.0

pub returns-in_err-count-clause-alike : goal.returns-in_err-count-clause-alike
returns-in_err-count-clause-alike c =
    (refused c.args.listing.now c.args.time c.args.out.now c.from_residual.result _ c.from_residual.ensures.1 c.in_err-count.ensures).1.1

pub returns-clause-answer : goal.returns-clause-answer
returns-clause-answer c =
    (accepted c.args.listing.now c.args.time c.args.out.now c.in_ok-count.ensures.clear _ _ c.write-found.ensures.found c.write-found.ensures.buffer).0

pub returns-clause-buffer : goal.returns-clause-buffer
returns-clause-buffer c =
    (accepted c.args.listing.now c.args.time c.args.out.now c.in_ok-count.ensures.clear _ _ c.write-found.ensures.found c.write-found.ensures.buffer).1.0

pub returns-clause-alike : goal.returns-clause-alike
returns-clause-alike c =
    (accepted c.args.listing.now c.args.time c.args.out.now c.in_ok-count.ensures.clear _ _ c.write-found.ensures.found c.write-found.ensures.buffer).1.1
