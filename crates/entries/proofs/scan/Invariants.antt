-- `entries::scan` meets its contract. The invariant: the place is where some entry i starts, what is carried is what
-- the definition carries to entry i, and no entry so far has broken the rule, so that the check of the entries from i
-- on decides. The measure is the number of bytes left. Assumes nothing.
use Rattle.std.proofs.Common.{◌≡◌, ℕ, ◌+◌, ◌-◌, ◌*◌, ◌≤◌, Bool, List}
use Rattle.answers.specs.Checks.{each}
use Rattle.answers.specs.Told.{number_of}
use Rattle.answers.specs.declared.Reason.{Reason}
use Rattle.lists.specs.Lists.{entry}
use Rattle.entries.specs.Code.Rules.{checked, entries_each}
use Rattle.entries.proofs.scan.Given as goal

pub record Reached (breaks : (ℕ → ℕ) → ℕ → Bool) (comes : (ℕ → ℕ) → ℕ → ℕ) (reason : Reason) (s : List ℕ) (n at now : ℕ)
    : Type 0 where
  pub i : ℕ
  pub within : i ≤ n
  pub starts : at ≡ 8 + 8 * i
  pub carries : now ≡ comes (entry s) i
  pub decides : entries_each (breaks (entry s)) (number_of reason) n
      ≡ each (checked (breaks (entry s)) (number_of reason)) i (n - i)

abbrev pub invariant-loop-at : goal.invariant-loop-at
invariant-loop-at g l =
    Reached (g.R.Rule.breaks l.rule) (g.R.Rule.comes l.rule) g.R.Rule.REASON l.body l.n l.at l.before

abbrev pub decreases-loop-at : goal.decreases-loop-at
decreases-loop-at g l = l.end - l.at
