-- `footer_fields::list_at` meets its contract. The invariant: the list has the first i entries, and 0 past them.
-- Assumes nothing.
use Rattle.std.proofs.Common.{◌≡◌}
use Rattle.footer.specs.Answer.{entries}
use Rattle.footer_fields.proofs.list_at.Given as goal

abbrev pub invariant-loop-i : goal.invariant-loop-i
invariant-loop-i l = l.list ≡ entries l.bytes l.i l.at
