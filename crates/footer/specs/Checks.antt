-- When a footer is refused: the checks in their order.
-- Assumes nothing.
use Rattle.std.specs.Prelude.{ℕ, true, false, List, [], ◌∷◌, ◌++◌, ltb, length}
use Rattle.answers.specs.Checks.{otherwise, first}
use Rattle.answers.specs.declared.Refusal.{Refusal}
use Rattle.description.specs.declared.Description.{Description}
use Rattle.description.specs.Limits.{least_tiles}
use Rattle.description.specs.Description.{limits_refusal, retired_refusal, float_refusal}
use Rattle.description.specs.Rules.{Rules, current}
use Rattle.footer.specs.declared.Entry.{Entry}
use Rattle.footer.specs.Fields.{wrong_bytes, Field, fields_of, start, footer_bytes}

-- The sparse entry, by what is said after 1 and by the most tiles.
abbrev pub sparse : Refusal → ℕ → Entry
sparse further tiles = record { further = further; flag = 1; least = least_tiles; most = tiles; cells = true }

abbrev pub sparse_by : Rules → Description → Entry
sparse_by rules d = sparse (rules.further d) rules.tiles

-- The dense entry, by what is said after 1: a dense flag of 0 is refused, there are no tiles, and so no cells of a last
-- one.
abbrev pub dense : Refusal → Entry
dense further = record { further = further; flag = 0; least = 0; most = 0; cells = false }

-- directly after 28 a float kind, 29
abbrev pub dense_entry : Description → Entry
dense_entry d = dense (otherwise (retired_refusal d) (float_refusal d))

-- 1, and what the entry says after it; fewer than 12 bytes, 2
abbrev pub front_checks : Entry → Description → List ℕ → List Refusal
front_checks entry d footer = limits_refusal d ∷ entry.further ∷ wrong_bytes footer (ltb (length footer) 12) ∷ []

module _ (entry : Entry) (d : Description) (F : ℕ) (footer : List ℕ) where
  -- what is said of fields, one after the other, each by its start
  abbrev pub checks_of : List Field → List Refusal
  checks_of [] = []
  checks_of ((name, width, checks) ∷ rest) =
      checks (record { entry = entry; description = d; footer = footer; file = F; total = footer_bytes d footer })
      (start d footer name) ++ checks_of rest

  -- Checks in order, by an entry: those, and then field by field.
  unfoldable pub entry_refusal : Refusal
  entry_refusal = first (front_checks entry d footer ++ checks_of (fields_of d footer))

-- by the sparse entry and by rules; and by those of this library
abbrev pub footer_refusal_by : Rules → Description → ℕ → List ℕ → Refusal
footer_refusal_by rules d = entry_refusal (sparse_by rules d) d

abbrev pub footer_refusal : Description → ℕ → List ℕ → Refusal
footer_refusal = footer_refusal_by current

-- by the dense entry
abbrev pub dense_footer_refusal : Description → ℕ → List ℕ → Refusal
dense_footer_refusal d = entry_refusal (dense_entry d) d
