-- `c_commits::tussockbell_committed` meets its contract: the library's own answer, place by place. Assumes nothing.
use mathlib.Core.Path.{ap, ◌∙◌}
use Rattle.c_commits.specs.Places.{committed_places}
use Rattle.c_commits.proofs.tussockbell_committed.Goals as goal

pub returns-clause-answer : goal.returns-clause-answer
unfolding committed_places
returns-clause-answer c = ap committed_places (c.from-r.ensures ∙ c.find_committed.ensures.answer)
