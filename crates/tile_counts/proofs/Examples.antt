-- Worked cases of the rules, by computation from the definitions: bodies of two tiles.
-- Assumes nothing.
use mathlib.Core.Path.{◌≡◌, refl}
use mathlib.Core.List.{List, ◌++◌}
use Prim.Native.Nat.{ℕ, ◌-◌, ◌^◌}
use Rattle.answers.specs.Runs.{over}
use Rattle.answers.specs.Checks.{first}
use Rattle.answers.specs.Refusals.{refusal, none, null_count}
use Rattle.order.specs.Little.{little, bytes_of}
use Rattle.footer.specs.Answer.{cells_of}
use Rattle.lists.specs.Lists.{list_refusal_by, entries_refusal_by}
use Rattle.tile_metadata.specs.Bodies.{value_of}
use Rattle.tile_counts.specs.Counts.{counts_refusal, sum_answer}

-- count 2 and two numbers
two : ℕ → ℕ → List ℕ
two a b = bytes_of 8 2 ++ (bytes_of 8 a ++ bytes_of 8 b)

-- a sum is raw
raw-sum : sum_answer 2 (two 0 (2 ^ 64 - 1)) 1 ≡ 2 ^ 64 - 1
unfolding two little bytes_of over first list_refusal_by value_of
raw-sum = refl

-- 32 and 5 cells: as many nulls are fine, one more in the last tile is 27
all-null : counts_refusal 2 5 32 (two 32 5) ≡ none
unfolding two little bytes_of over first list_refusal_by entries_refusal_by counts_refusal cells_of
all-null = refl

-- in the last tile, whose cells are its own
one_more : counts_refusal 2 5 32 (two 32 6) ≡ refusal null_count 16
unfolding two little bytes_of over first list_refusal_by entries_refusal_by counts_refusal cells_of
one_more = refl
