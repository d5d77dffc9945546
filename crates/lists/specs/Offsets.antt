-- When are tile offsets refused, and where do a tile's bytes start and end?
-- Assumes nothing.
use Rattle.std.specs.Prelude.{◌≡◌, ℕ, Result, Ok, Err, ◌+◌, ◌-◌, ◌<◌, Bool, not, ◌||◌, cond, List, ltb, leb, eqb}
use Rattle.answers.specs.Refusals.{the_tile_offsets}
use Rattle.answers.specs.Runs.{sum}
use Rattle.answers.specs.declared.Refusal.{Refusal}
use Rattle.answers.specs.declared.Refused.{Refused}
use Rattle.answers.specs.Told.{number_of}
use Rattle.description.specs.Rules.{Rules, current}
use Rattle.lists.specs.declared.TileOffsets.{TileOffsets}
use Rattle.lists.specs.declared.Extent.{Extent}
use Rattle.lists.specs.Lists.{entry, entries_refusal_by}

-- "Offsets, with data file size S: the first is 0, each later one above the one before, all below S, else 18."
abbrev pub offset_breaks : ℕ → (ℕ → ℕ) → ℕ → Bool
offset_breaks S offset i = cond (eqb i 0) (not (eqb (offset i) 0)) (leb (offset i) (offset (i - 1))) || leb S (offset i)

unfoldable pub offsets_refusal_by : Rules → ℕ → ℕ → List ℕ → Refusal
offsets_refusal_by rules n S s = entries_refusal_by rules (offset_breaks S (entry s)) the_tile_offsets n s

abbrev pub offsets_refusal : ℕ → ℕ → List ℕ → Refusal
offsets_refusal = offsets_refusal_by current

-- "An accepted list answers n": a refusal has 0 there
abbrev pub answered : ℕ → Refusal → TileOffsets
answered n r = record { number = r.number; place = r.place; tiles = cond (eqb r.number 0) n 0 }

-- what code tells: how many tiles there are, or what the error says
unfoldable pub told_tiles : Result ℕ Refused → TileOffsets
told_tiles (Ok n) = record { number = 0; place = 0; tiles = n }
told_tiles (Err e) = record { number = number_of e.reason; place = e.place; tiles = 0 }

abbrev pub offsets_answer_by : Rules → ℕ → ℕ → List ℕ → TileOffsets
offsets_answer_by rules n S s = answered n (offsets_refusal_by rules n S s)

abbrev pub offsets_answer : ℕ → ℕ → List ℕ → TileOffsets
offsets_answer = offsets_answer_by current

-- "Tile i's extent runs to the next offset, the last one's to S"
abbrev pub end_of : ℕ → ℕ → List ℕ → ℕ → ℕ
end_of n S s i = cond (ltb (i + 1) n) (entry s (i + 1)) S

-- "a further request for tile i gets its offset and extent, both 0 where .. i isn't below n"
unfoldable pub offset_of : ℕ → List ℕ → ℕ → ℕ
offset_of n s i = cond (ltb i n) (entry s i) 0

unfoldable pub extent_of : ℕ → ℕ → List ℕ → ℕ → ℕ
extent_of n S s i = cond (ltb i n) (end_of n S s i - entry s i) 0

-- of any bytes, also where the list would be refused
abbrev pub extent_at : ℕ → ℕ → List ℕ → ℕ → Extent
extent_at n S s i = record { offset = offset_of n s i; extent = extent_of n S s i }

-- "both 0 where the list is refused or i isn't below n"
abbrev pub asked : Refusal → Extent → Extent
asked r e = cond (eqb r.number 0) e (record { offset = 0; extent = 0 })

abbrev pub extent_answer_by : Rules → ℕ → ℕ → List ℕ → ℕ → Extent
extent_answer_by rules n S s i = asked (offsets_refusal_by rules n S s) (extent_at n S s i)

abbrev pub extent_answer : ℕ → ℕ → List ℕ → ℕ → Extent
extent_answer = extent_answer_by current

-- "all extents add up to S": each tile's bytes end where the next one's start, and the last one's at S
pub record EndToEnd (n S : ℕ) (s : List ℕ) : Type 0 where
  pub total : sum (extent_of n S s) 0 n ≡ S
  pub next : (i : ℕ) → i + 1 < n → offset_of n s i + extent_of n S s i ≡ offset_of n s (i + 1)
  pub last : offset_of n s (n - 1) + extent_of n S s (n - 1) ≡ S

-- and none is empty
pub record Extents (n S : ℕ) (s : List ℕ) : Type 0 where
  pub run : EndToEnd n S s
  pub some : (i : ℕ) → i < n → 0 < extent_of n S s i
