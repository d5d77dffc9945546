-- What the definitions of a reader or a writer take as given, so that one definition says what is refused before a change
-- of the rules and after it.
-- Assumes nothing.
use Rattle.std.specs.Prelude.{ℕ}
use Rattle.answers.specs.Refusals.{none}
use Rattle.answers.specs.Checks.{otherwise}
use Rattle.answers.specs.declared.Refusal.{Refusal}
use Rattle.description.specs.declared.Description.{Description}
use Rattle.description.specs.Limits.{most_tiles}
use Rattle.description.specs.Description.{limits_refusal, retired_refusal}

pub record Rules : Type 0 where
  -- what is said of a description after 1, before all else
  pub further : Description → Refusal
  -- the most tiles n
  pub tiles : ℕ

-- 1, and directly after it what the rules say
abbrev pub described_by : Rules → Description → Refusal
described_by rules d = otherwise (limits_refusal d) (rules.further d)

-- by which this refusal, whatever the description, is said after 1
abbrev pub rules_by : Refusal → Rules
rules_by further = record { further = λ d. further; tiles = most_tiles }

-- those of this library
abbrev pub current : Rules
current = record { further = retired_refusal; tiles = most_tiles }

-- those just before float32 was retired: five kinds, no infinite ends, 16,777,216 tiles
abbrev pub before : Rules
before = rules_by none

-- this library's but for 28, which was not yet, and for the most tiles, which were 65,536 once; kinds and other refusals
-- are today's
abbrev pub earlier : Rules
earlier = record { further = λ d. none; tiles = 65_536 }
