-- `footer::check_offsets` meets its contract. The invariant: what the definition says of all the offsets is what it says of those from i on.
-- Assumes nothing.
use Rattle.std.proofs.Common.{◌≡◌, ℕ, ◌+◌, ◌-◌, ◌*◌, not, List, ltb}
use Rattle.answers.specs.Refusals.{offset}
use Rattle.answers.specs.Checks.{check, each}
use Rattle.answers.specs.declared.Refusal.{Refusal}
use Rattle.order.specs.Little.{little}
use Rattle.footer.specs.Fields.{file_offsets_refusal}
use Rattle.footer.proofs.check_offsets.Given as goal

-- what is said of offset i
unfoldable pub said : List ℕ → ℕ → ℕ → ℕ → Refusal
said bytes at limit i = check (not (ltb (little bytes (at + 8 * i) 8) limit)) offset (at + 8 * i)

abbrev pub invariant-loop-i : goal.invariant-loop-i
invariant-loop-i l = file_offsets_refusal l.bytes l.limit l.count l.at ≡ each (said l.bytes l.at l.limit) l.i (l.count - l.i)
