-- Which bytes of a data file are read for a run of tiles?
-- Assumes nothing.
use Rattle.std.specs.Prelude.{ℕ, zero, suc, Result, Ok, Err, ◌+◌, ◌-◌, ◌/◌, ◌%◌, ◌^◌, Bool, false, cond, ◌&&◌, ◌||◌, leb, List, [], ◌∷◌, length, take, ◌==◌, nat_eq, nat_le, nat_lt}
use Rattle.answers.specs.Refusals.{none, work}
use Rattle.answers.specs.Checks.{check, otherwise}
use Rattle.answers.specs.Laid.{laid}
use Rattle.answers.specs.Runs.{sum}
use Rattle.answers.specs.declared.Refusal.{Refusal}
use Rattle.answers.specs.declared.Refused.{Refused}
use Rattle.answers.specs.Told.{said}
use Rattle.lists.specs.Offsets.{offsets_refusal, offset_of, extent_of}
use Rattle.lists.specs.VarOffsets.{var_offsets_refusal}
use Rattle.plan.specs.declared.Range.{Range}
use Rattle.plan.specs.declared.Planned.{Planned}
use Rattle.plan.specs.declared.ReadPlan.{ReadPlan}

abbrev pub range : ℕ → ℕ → Range
range start end = record { start = start; end = end }

-- "A named tile's bytes are its extent"
abbrev pub tile_bytes : ℕ → ℕ → List ℕ → ℕ → Range
tile_bytes n S s i = range (offset_of n s i) (offset_of n s i + extent_of n S s i)

-- whether the run names a tile, "in any order, repeated or not"
unfoldable pub occurs : List ℕ → ℕ → Bool
occurs [] i = false
occurs (x ∷ xs) i = x == i || occurs xs i

-- "a tile without bytes takes no part in the ranges"
abbrev pub solid : (ℕ → Bool) → (ℕ → Range) → ℕ → Bool
solid named tile i = named i && nat_lt (tile i).start (tile i).end

-- "in one range exactly if at most g bytes lie between the end of the first and the offset of the second": bytes r
-- before the ranges of what comes after them, whose first starts where the next tile that takes part does
unfoldable pub before : ℕ → Range → List Range → List Range
before g r [] = r ∷ []
before g r (s ∷ ss) = cond (nat_le (s.start - r.end) g) (range r.start s.end ∷ ss) (r ∷ s ∷ ss)

-- "Rising by tile": of the tiles k, k + 1, .. , m of them, those that take part
unfoldable pub grouped : ℕ → (ℕ → Bool) → (ℕ → Range) → ℕ → ℕ → List Range
grouped g part tile k zero = []
grouped g part tile k (suc m) =
    cond (part k) (before g (tile k) (grouped g part tile (suc k) m)) (grouped g part tile (suc k) m)

abbrev pub planned : ℕ → (ℕ → Bool) → (ℕ → Range) → ℕ → List Range
planned g named tile n = grouped g (solid named tile) tile 0 n

-- the ranges, of a list of offsets, a gap and a run
abbrev pub read_ranges : ℕ → ℕ → List ℕ → ℕ → List ℕ → List Range
read_ranges n S s g run = planned g (occurs run) (tile_bytes n S s) n

-- "A range is its start and its length": two numbers a range
unfoldable pub words : List Range → List ℕ
words [] = []
words (r ∷ rs) = r.start ∷ (r.end - r.start) ∷ words rs

-- "how many bytes the ranges have"
unfoldable pub total : List Range → ℕ
total [] = 0
total (r ∷ rs) = r.end - r.start + total rs

-- "how many different tiles below n"
abbrev pub different : ℕ → (ℕ → Bool) → ℕ
different n named = sum (λ i. cond (named i) 1 0) 0 n

-- how many entries of a run pass a test
unfoldable pub how_many : (ℕ → Bool) → List ℕ → ℕ
how_many test [] = 0
how_many test (x ∷ xs) = cond (test x) 1 0 + how_many test xs

-- "Checks: those of the list, in its order; then 21 at 0 exactly if the work buffer has fewer than n / 8 bytes, rounded
-- up"
abbrev pub plan_refusal : Refusal → ℕ → ℕ → Refusal
plan_refusal list n room = otherwise list (check (nat_lt room ((n + 7) / 8)) work 0)

-- The answer and the output run after what the list is refused with. A list that isn't accepted, whose tiles may
-- overlap, is asked only with no check; the bytes of its ranges have 64 bits.
abbrev pub plan_after : Refusal → ℕ → ℕ → List ℕ → ℕ → List ℕ → ℕ → ReadPlan
plan_after list n S s g run room =
    let r = plan_refusal list n room in
    let accepted = nat_eq r.number 0 in
    record {
      number = r.number;
      place = r.place;
      ranges = cond accepted (length (read_ranges n S s g run)) 0;
      tiles = cond accepted (different n (occurs run)) 0;
      outside = cond accepted (how_many (λ x. leb n x) run) 0;
      bytes = cond accepted (total (read_ranges n S s g run) % 2 ^ 64) 0;
    }

-- what code tells: what is planned, or what the error says and 0 in all else
unfoldable pub told_plan : Result Planned Refused → ReadPlan
told_plan (Ok p) =
    record { number = 0; place = 0; ranges = p.ranges; tiles = p.tiles; outside = p.outside; bytes = p.bytes }
told_plan (Err e) =
    record { number = (said e).number; place = (said e).place; ranges = 0; tiles = 0; outside = 0; bytes = 0 }

-- "as many whole ranges as fit, the rest untouched"
abbrev pub output_after : Refusal → ℕ → ℕ → List ℕ → ℕ → List ℕ → ℕ → List ℕ → List ℕ
output_after list n S s g run room out =
    cond ((plan_refusal list n room).number == 0)
    (laid (words (take (length out / 2) (read_ranges n S s g run))) out) out

-- of tile offsets, of var offsets, and with no check of the list
abbrev pub plan_answer : ℕ → ℕ → List ℕ → ℕ → List ℕ → ℕ → ReadPlan
plan_answer n S s = plan_after (offsets_refusal n S s) n S s

abbrev pub plan_output : ℕ → ℕ → List ℕ → ℕ → List ℕ → ℕ → List ℕ → List ℕ
plan_output n S s = output_after (offsets_refusal n S s) n S s

abbrev pub var_plan_answer : ℕ → ℕ → List ℕ → ℕ → List ℕ → ℕ → ReadPlan
var_plan_answer n S s = plan_after (var_offsets_refusal n S s) n S s

abbrev pub var_plan_output : ℕ → ℕ → List ℕ → ℕ → List ℕ → ℕ → List ℕ → List ℕ
var_plan_output n S s = output_after (var_offsets_refusal n S s) n S s

abbrev pub plan_at : ℕ → ℕ → List ℕ → ℕ → List ℕ → ℕ → ReadPlan
plan_at = plan_after none

abbrev pub output_at : ℕ → ℕ → List ℕ → ℕ → List ℕ → ℕ → List ℕ → List ℕ
output_at = output_after none
