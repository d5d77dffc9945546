-- `c_answers::put_domain` meets its contract: four ranges one after the other. Assumes nothing.
use Rattle.answers.specs.Runs.{over}
use Rattle.c_answers.specs.Places.{range_places, domain_places}
use Rattle.c_answers.proofs.put_domain.Goals as goal

pub returns : goal.returns
unfolding domain_places range_places over
returns c =
    rw (
      c.put-4.ensures,
      c.put-3.ensures,
      c.put-2.ensures,
      c.put.ensures,
      c.range_places-fourth.ensures,
      c.range_places-third.ensures,
      c.range_places-second.ensures,
      c.range_places-first.ensures,
    )
