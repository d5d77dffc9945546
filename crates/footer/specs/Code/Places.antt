-- What the code that checks a footer's fields asks of the places it is given. Nothing here is promised to a caller.
-- Assumes nothing.
use Rattle.std.specs.Prelude.{ℕ, ◌+◌, ◌*◌, ◌≤◌, ◌≡◌, List, [], ◌∷◌, ◌++◌, ltb, length}
use Rattle.description.specs.declared.Description.{Description}
use Rattle.description.specs.Description.{bytes_of_box}
use Rattle.description.specs.Limits.{least_version, most_version, least_name, most_name}
use Rattle.answers.specs.Refusals as refusals
use Rattle.answers.specs.declared.Refusal.{Refusal}
use Rattle.footer.specs.declared.Entry.{Entry}
use Rattle.footer.specs.Fields.{wrong_bytes, number_outside, fields_of, until, from, start}
use Rattle.footer.specs.Checks.{front_checks, checks_of}

-- The number of bytes, the version and the name size.
abbrev pub name_checks : List ℕ → List Refusal
name_checks footer =
    wrong_bytes footer (ltb (length footer) 12)
    ∷ number_outside footer 4 least_version most_version refusals.version 0
    ∷ number_outside footer 8 least_name most_name refusals.the_name_size 4
    ∷ []

-- The checks in the parts that the code goes through: up to the name size; of the whole; before n; from n on. Only the
-- second and the last go by F.
module _ (entry : Entry) (d : Description) (footer : List ℕ) where
  abbrev pub head_checks : List Refusal
  head_checks = front_checks entry d footer ++ checks_of entry d 0 footer (until "name" (fields_of d footer))

  abbrev pub size_checks : ℕ → List Refusal
  size_checks F = checks_of entry d F footer (until "dense" (from "name" (fields_of d footer)))

  abbrev pub checks_before_tiles : List Refusal
  checks_before_tiles = checks_of entry d 0 footer (until "tiles" (from "dense" (fields_of d footer)))

  abbrev pub checks_from_tiles : ℕ → List Refusal
  checks_from_tiles F = checks_of entry d F footer (from "tiles" (fields_of d footer))

  -- all of them after the description
  abbrev pub fields_checks : ℕ → List Refusal
  fields_checks F = name_checks footer ++ (size_checks F ++ (checks_before_tiles ++ checks_from_tiles F))

module _ (d : Description) (footer : List ℕ) where
  -- the starts of the dense flag and of the tile number, with the domain's box between them
  abbrev pub BeforeTiles : ℕ → ℕ → Type 0
  BeforeTiles dense tiles =
      (dense ≡ start d footer "dense") × (dense + 2 + bytes_of_box d ≡ tiles) × (tiles ≤ length footer)

  -- the start of the tile number, with all the bytes from there on, in a file of F bytes
  abbrev pub FromTiles : ℕ → ℕ → Type 0
  FromTiles F tiles =
      (tiles ≡ start d footer "tiles") × (tiles + 50 + 88 * d.fields ≡ length footer) × (length footer ≤ F)
