-- An order of checks as data: a list of what each check says, of which the first that refuses decides.
-- Assumes nothing.
use Rattle.std.specs.Prelude.{ℕ, ◌+◌, ◌%◌, ◌^◌, Bool, cond, List, [], ◌∷◌, ◌==◌}
use Rattle.answers.specs.declared.Refusal.{Refusal}
use Rattle.answers.specs.Refusals.{refusal, none}
use Rattle.answers.specs.Runs.{over}

-- what one check says: where the test is true, a refusal with this number at this place
abbrev pub check : Bool → ℕ → ℕ → Refusal
check test number place = cond test (refusal number place) none

-- the first of two that refuses
abbrev pub otherwise : Refusal → Refusal → Refusal
otherwise r s = cond (r.number == 0) s r

-- the first of a list that refuses
unfoldable pub first : List Refusal → Refusal
first [] = none
first (r ∷ rs) = otherwise r (first rs)

-- the first of g k, g (k + 1), .. , m of them, that refuses
abbrev pub each : (ℕ → Refusal) → ℕ → ℕ → Refusal
each = over otherwise none

-- the same refusal from a start on: its place is that much further; what does not refuse stays
abbrev pub moved : ℕ → Refusal → Refusal
moved start r = cond (r.number == 0) r (refusal r.number (start + r.place))

-- with a place of 64 bits
abbrev pub moved_round : ℕ → Refusal → Refusal
moved_round start r = cond (r.number == 0) r (refusal r.number ((start + r.place) % 2 ^ 64))
