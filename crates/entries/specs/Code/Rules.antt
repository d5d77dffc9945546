-- Nothing here is promised to a caller. What does the one loop over a list's entries ask of their rule, and what does
-- it answer? Assumes nothing.
use Rattle.std.specs.Prelude.{◌≡◌, refl, ℕ, zero, suc, ◌+◌, ◌*◌, Bool, cond, Option, Some, None, Result, Ok, Err}
use Rattle.answers.specs.Refusals.{none}
use Rattle.answers.specs.Runs.{over, sum}
use Rattle.answers.specs.Checks.{check, each}
use Rattle.answers.specs.Told.{said}
use Rattle.answers.specs.declared.Refusal.{Refusal}
use Rattle.answers.specs.declared.Refused.{Refused}

-- what comes to entry i: the offset before it, if there is one; the sum of the sizes before it
abbrev pub before : (ℕ → ℕ) → ℕ → ℕ
before g zero = 0
before g (suc i) = g i

abbrev pub so_far : (ℕ → ℕ) → ℕ → ℕ
so_far g i = sum g 0 i

pub so_far-none : (g : ℕ → ℕ) → so_far g 0 ≡ 0
unfolding over
so_far-none g = refl

-- What a rule answers of an entry x that starts at a place: whichever entry it is, nothing if it breaks the rule, and
-- else what comes to the next one.
abbrev pub Stepped : ((ℕ → ℕ) → ℕ → Bool) → ((ℕ → ℕ) → ℕ → ℕ) → ℕ → ℕ → ℕ → Option ℕ → Type 0
Stepped breaks comes at now x r =
    (g : ℕ → ℕ) (i : ℕ) → at ≡ 8 + 8 * i → now ≡ comes g i → x ≡ g i
    → r ≡ cond (breaks g i) None (Some (comes g (i + 1)))

-- what a check says that answers a value where nothing is refused
abbrev pub Says : Refusal → ℕ → Result ℕ Refused → Type 0
Says r value (Ok x) = (r ≡ none) × (x ≡ value)
Says r value (Err e) = said e ≡ r

-- the refusal of one entry, and of n
abbrev pub checked : (ℕ → Bool) → ℕ → ℕ → Refusal
checked breaks number i = check (breaks i) number (8 + 8 * i)

abbrev pub entries_each : (ℕ → Bool) → ℕ → ℕ → Refusal
entries_each breaks number n = each (checked breaks number) 0 n
