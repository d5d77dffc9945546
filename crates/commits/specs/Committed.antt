-- Which listings are accepted, which folders count, and which lines are found?
-- Assumes nothing.
use Rattle.std.specs.Prelude.{ℕ, suc, ◌≡◌, Result, Ok, Err, Bool, false, not, cond, ◌&&◌, ◌||◌, List, [], ◌∷◌, leb, eqb, length, get_or, take}
use Rattle.answers.specs.declared.Refusal.{Refusal}
use Rattle.answers.specs.declared.Refused.{Refused}
use Rattle.answers.specs.Refusals.{bad_line, repeated}
use Rattle.answers.specs.Checks.{check, first, each}
use Rattle.answers.specs.Told.{said}
use Rattle.text.specs.Text.{Bytes, lines, same}
use Rattle.commits.specs.declared.Committed.{Committed}
use Rattle.commits.specs.Records.{folder, wrt, con, ign, is_record, kind_of, name_of, time_of}

abbrev pub most_lines : ℕ
most_lines = 1_024

-- a line passes a test; those that do, and their numbers from i on
unfoldable pub some : (Bytes → Bool) → List Bytes → Bool
some test [] = false
some test (l ∷ ls) = test l || some test ls

unfoldable pub chosen : (Bytes → Bool) → List Bytes → List Bytes
chosen test [] = []
chosen test (l ∷ ls) = cond (test l) (l ∷ chosen test ls) (chosen test ls)

unfoldable pub numbers : (Bytes → Bool) → ℕ → List Bytes → List ℕ
numbers test i [] = []
numbers test i (l ∷ ls) = cond (test l) (i ∷ numbers test (suc i) ls) (numbers test (suc i) ls)

abbrev pub line_in : List Bytes → ℕ → Bytes
line_in ls i = get_or ls i []

-- "A bad line is 24, a record repeated whole is 25, the place being the line from 0 (the later one), first line first; too
-- many lines is 24 at 1,024"
unfoldable pub line_refusal : List Bytes → ℕ → Refusal
line_refusal ls i = first (
    check (leb most_lines i) bad_line i
    ∷ check (not (is_record (line_in ls i))) bad_line i
    ∷ check (some (same (line_in ls i)) (take i ls)) repeated i
    ∷ []
    )

unfoldable pub listing_refusal : List Bytes → Refusal
listing_refusal ls = each (line_refusal ls) 0 (length ls)

abbrev pub Accepted : List Bytes → Type 0
Accepted ls = (listing_refusal ls).number ≡ 0

-- a line of that kind has the name
abbrev pub bears : ℕ → Bytes → Bytes → Bool
bears kind name l = eqb (kind_of l) kind && same (name_of l) name

unfoldable pub names : ℕ → List Bytes → Bytes → Bool
names kind ls name = some (bears kind name) ls

-- "A folder counts if a wrt names it, or a con names it and no ign does"
unfoldable pub counts : List Bytes → Bytes → Bool
counts ls name = names wrt ls name || (names con ls name && not (names ign ls name))

-- "folders that count with t2 at most t"
unfoldable pub listed : ℕ → List Bytes → Bytes → Bool
listed time ls l = eqb (kind_of l) folder && (counts ls (name_of l) && leb (time_of (name_of l)) time)

-- their line numbers, from 0, in listing order; none of a refused listing
abbrev pub lines_listed : ℕ → List Bytes → List ℕ
lines_listed time ls = numbers (listed time ls) 0 ls

unfoldable pub committed_lines : Bytes → ℕ → List ℕ
committed_lines t time = cond (eqb (listing_refusal (lines t)).number 0) (lines_listed time (lines t)) []

unfoldable pub committed_answer : Bytes → ℕ → Committed
committed_answer t time = record {
  number = (listing_refusal (lines t)).number;
  place = (listing_refusal (lines t)).place;
  found = length (committed_lines t time);
}

-- what code tells: how many are found, or what the error says
unfoldable pub told_committed : Result ℕ Refused → Committed
told_committed (Ok found) = record { number = 0; place = 0; found = found }
told_committed (Err e) = record { number = (said e).number; place = (said e).place; found = 0 }
