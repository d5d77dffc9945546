-- When are sums and null counts refused, and what is tile i's?
-- Assumes nothing.
use Rattle.std.specs.Prelude.{ℕ, List, ltb}
use Rattle.answers.specs.Refusals.{null_count}
use Rattle.answers.specs.declared.Refusal.{Refusal}
use Rattle.description.specs.declared.Description.{Description}
use Rattle.description.specs.Rules.{Rules, current}
use Rattle.footer.specs.Checks.{footer_refusal_by}
use Rattle.footer.specs.Answer.{cells_of, checked_answer_by}
use Rattle.lists.specs.Lists.{entry, list_refusal, entries_refusal}
use Rattle.tile_metadata.specs.declared.TileValues.{TileValues}
use Rattle.tile_metadata.specs.declared.TwoBodies.{TwoBodies}
use Rattle.tile_metadata.specs.Bodies.{answered, together, value_of, unless_refused}

-- "Sums are raw 64-bit values", as a list of tile sizes lays them out, with no rule of their own.
abbrev pub sums_answer : ℕ → List ℕ → TileValues
sums_answer n s = answered n (list_refusal n 8 s)

abbrev pub sum_of : ℕ → List ℕ → ℕ → ℕ
sum_of n s i = value_of 8 n s i

abbrev pub sum_answer : ℕ → List ℕ → ℕ → ℕ
sum_answer n s i = unless_refused (list_refusal n 8 s).number (sum_of n s i) 0

-- "one above its tile's cells is 27, at the start of the count": in the body, with an accepted footer's n, the last
-- tile's cells and C
unfoldable pub counts_refusal : ℕ → ℕ → ℕ → List ℕ → Refusal
counts_refusal n last c s = entries_refusal (λ i. ltb (cells_of n last c i) (entry s i)) null_count n s

module _ (rules : Rules) (d : Description) (F : ℕ) (footer s : List ℕ) where
  -- what counts in the body; an accepted footer tells n and the last tile's cells, a refused one 0 for both
  abbrev pub null_counts_refusal_by : Refusal
  null_counts_refusal_by =
      let told = checked_answer_by rules d F footer in
      counts_refusal told.tiles told.last_cells d.capacity s

  -- "Null counts come with the footer, its refusals first"
  abbrev pub null_counts_answer_by : TwoBodies
  null_counts_answer_by =
      together (checked_answer_by rules d F footer).tiles (footer_refusal_by rules d F footer) null_counts_refusal_by

  abbrev pub null_count_answer_by : ℕ → ℕ
  null_count_answer_by i =
      unless_refused null_counts_answer_by.number (value_of 8 (checked_answer_by rules d F footer).tiles s i) 0

-- by the rules of this library
module _ (d : Description) (F : ℕ) (footer s : List ℕ) where
  abbrev pub null_counts_refusal : Refusal
  null_counts_refusal = null_counts_refusal_by current d F footer s

  abbrev pub null_counts_answer : TwoBodies
  null_counts_answer = null_counts_answer_by current d F footer s

  abbrev pub null_count_answer : ℕ → ℕ
  null_count_answer = null_count_answer_by current d F footer s
