-- `c_query::check_lent` meets its contract.
-- Assumes nothing.
use mathlib.Core.Path.{refl, ◌∙◌}
use Prim.Native.Nat.{◌/◌}
use borrow.Author.Tests.{eq-eqb, ne_eqb}
use Rattle.answers.specs.Told.{number_of}
use Rattle.batch.specs.Batch.{batch_of}
use Rattle.c_query.specs.Lent.{lent_batch}
use Rattle.c_query.proofs.check_lent.Goals as goal
use Rattle.c_query.proofs.check_lent.Goals.{else-places-count-via-then-places-count+else-bytes-count, else-places-count-via-else-places-count}

pub returns-then-bytes-count : goal.returns-then-bytes-count
unfolding lent_batch batch_of
returns-then-bytes-count c =
    let m = c.args.places / 5 in
    c.check_runs.ensures ∙ simp (eq-eqb _ _ c.if-places-count.true, eq-eqb _ _ c.if-bytes-count.true, eq-eqb m m refl)

pub returns : goal.returns
unfolding lent_batch number_of
returns c = elim c.else-places-count.branch [
  | else-places-count-via-then-places-count+else-bytes-count w ↦ simp (c.number.ensures, eq-eqb _ _ w.if-places-count.true, ne_eqb _ _ w.if-bytes-count.false)
  | else-places-count-via-else-places-count w ↦ simp (c.number.ensures, ne_eqb _ _ w.if-places-count.false)
]
