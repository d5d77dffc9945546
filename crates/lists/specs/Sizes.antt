-- When are tile sizes refused, and what do they add up to?
-- Assumes nothing.
use Rattle.std.specs.Prelude.{ℕ, Result, Ok, Err, ◌+◌, ◌-◌, ◌^◌, Bool, cond, List, ltb, eqb}
use Rattle.answers.specs.Refusals.{sizes_sum}
use Rattle.answers.specs.Runs.{sum}
use Rattle.answers.specs.declared.Refusal.{Refusal}
use Rattle.answers.specs.declared.Refused.{Refused}
use Rattle.answers.specs.Told.{number_of}
use Rattle.description.specs.Rules.{Rules, current}
use Rattle.lists.specs.declared.TileSizes.{TileSizes}
use Rattle.lists.specs.Lists.{entry, entries_refusal_by}

-- "Sizes: only 20": with this entry they add up past 2^64 - 1
abbrev pub size_breaks : (ℕ → ℕ) → ℕ → Bool
size_breaks size i = ltb (2 ^ 64 - 1) (sum size 0 (i + 1))

unfoldable pub sizes_refusal_by : Rules → ℕ → List ℕ → Refusal
sizes_refusal_by rules n s = entries_refusal_by rules (size_breaks (entry s)) sizes_sum n s

abbrev pub sizes_refusal : ℕ → List ℕ → Refusal
sizes_refusal = sizes_refusal_by current

-- what code tells: the sum, or what the error says
unfoldable pub told_sum : Result ℕ Refused → TileSizes
told_sum (Ok x) = record { number = 0; place = 0; sum = x }
told_sum (Err e) = record { number = number_of e.reason; place = e.place; sum = 0 }

-- "the answer is their sum": a refusal has 0 there
abbrev pub sizes_answer_by : Rules → ℕ → List ℕ → TileSizes
sizes_answer_by rules n s =
    let r = sizes_refusal_by rules n s in
    record { number = r.number; place = r.place; sum = cond (eqb r.number 0) (sum (entry s) 0 n) 0 }

abbrev pub sizes_answer : ℕ → List ℕ → TileSizes
sizes_answer = sizes_answer_by current
