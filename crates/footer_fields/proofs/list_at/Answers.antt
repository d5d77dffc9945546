-- `footer_fields::list_at` meets its contract. Assumes nothing.
use Rattle.std.proofs.Common.{sym, arith}
use Rattle.answers.proofs.Filled.{filled_none, filled_more}
use Rattle.description.specs.Limits.{most_fields}
use Rattle.footer.specs.Answer.{entries}
use Rattle.footer_fields.proofs.list_at.Goals as goal

pub loop-i-init : goal.loop-i-init
unfolding entries
loop-i-init c = sym (filled_none _ 0 most_fields)

pub loop-i-preserved : goal.loop-i-preserved
unfolding entries
loop-i-preserved c =
    let l = c.loop-i in
    rw (l.invariant, c.u64_at.ensures) (filled_more _ 0 l.i most_fields (omega arith))
