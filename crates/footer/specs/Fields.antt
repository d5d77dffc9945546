-- The footer's fields: what stands where, and what is asked of it.
-- Assumes nothing.
use Rattle.std.specs.Prelude.{ℕ, ◌+◌, ◌-◌, ◌*◌, Bool, not, cond, List, [], ◌∷◌, ltb, eqb, length, get_or, take, drop}
use Prim.Native.String.{String}
use lib.Text.{eqt}
use Rattle.answers.specs.Refusals as refusals
use Rattle.answers.specs.Refusals.{none}
use Rattle.answers.specs.Checks.{check, each}
use Rattle.answers.specs.declared.Refusal.{Refusal}
use Rattle.order.specs.Little.{little}
use Rattle.description.specs.declared.Description.{Description}
use Rattle.description.specs.Limits.{least_version, most_version, least_name, most_name, outside}
use Rattle.description.specs.Description.{sides_of, bytes_of_box}
use Rattle.boxes.specs.Boxes.{ranges_refusal}
use Rattle.footer.specs.declared.Entry.{Entry}

-- What is said of the bytes, and of a field by its start.
module _ (footer : List ℕ) where
  -- 2 at the number of lent bytes
  abbrev pub wrong_bytes : Bool → Refusal
  wrong_bytes test = check test refusals.bytes (length footer)

  -- a flag byte is neither 0 nor 1
  unfoldable pub no_flag : ℕ → Refusal
  no_flag at = check (ltb 1 (get_or footer at 0)) refusals.flag at

  -- a flag that must not be this one
  unfoldable pub flag_is : ℕ → ℕ → ℕ → Refusal
  flag_is flag number at = check (eqb (get_or footer at 0) flag) number at

  -- a number of so many bytes that must not be below the least or above the most
  unfoldable pub number_outside : ℕ → ℕ → ℕ → ℕ → ℕ → Refusal
  number_outside width least most number at = check (outside least most (little footer at width)) number at

  -- so many offsets one after the other, each of which must be below the limit
  unfoldable pub file_offsets_refusal : ℕ → ℕ → ℕ → Refusal
  file_offsets_refusal limit count at =
      each (λ i. check (not (ltb (little footer (at + 8 * i) 8) limit)) refusals.offset (at + 8 * i)) 0 count

-- a check that only some entries have
abbrev pub only_if : Bool → Refusal → Refusal
only_if has r = cond has r none

-- What a check goes by besides its field's start: the entry, the description, the lent footer, F, and the bytes that
-- the footer has to have.
pub record Given : Type 0 where
  pub entry : Entry
  pub description : Description
  pub footer : List ℕ
  pub file : ℕ
  pub total : ℕ

-- A field: its name, its bytes, and its checks in their order, by its start.
abbrev pub Field : Type 0
Field = String × ℕ × (Given → ℕ → List Refusal)

module _ (g : Given) where
  -- nothing is asked
  abbrev free : ℕ → List Refusal
  free at = []

  -- a number from the least to the most
  abbrev number : ℕ → ℕ → ℕ → ℕ → ℕ → List Refusal
  number width least most refused at = number_outside g.footer width least most refused at ∷ []

  -- a flag byte, and one that must not be this
  abbrev flag : ℕ → List Refusal
  flag at = no_flag g.footer at ∷ []

  abbrev flag_but : ℕ → ℕ → ℕ → List Refusal
  flag_but not refused at = no_flag g.footer at ∷ flag_is g.footer not refused at ∷ []

  -- so many offsets, each below F less the footer's bytes
  abbrev offsets : ℕ → ℕ → List Refusal
  offsets count at = file_offsets_refusal g.footer (g.file - g.total) count at ∷ []

  -- bytes unlike the total, or F below it
  abbrev whole_bytes : ℕ → List Refusal
  whole_bytes at =
      wrong_bytes g.footer (not (eqb (length g.footer) g.total))
      ∷ wrong_bytes g.footer (ltb g.file g.total)
      ∷ []

  -- a box of so many bytes: its ranges, each dimension in turn
  abbrev sound : ℕ → ℕ → List Refusal
  sound b at =
      ranges_refusal g.description.kinds (sides_of g.description.dimensions) (take b (drop at g.footer)) at ∷ []

  -- 1 to the capacity, for an entry that has tiles
  abbrev the_last_cells : ℕ → List Refusal
  the_last_cells at =
      only_if g.entry.cells (number_outside g.footer 8 1 g.description.capacity refusals.the_last_cells at) ∷ []

  -- 8 less than the total
  abbrev length_field : ℕ → List Refusal
  length_field at = wrong_bytes g.footer (not (eqb (little g.footer at 8) (g.total - 8))) ∷ []

-- In footer order: name, bytes, checks. `s` is the name size, `b` the bytes of a box, `n` the entries in each list. The
-- bytes of the whole are checked as soon as the name size is known.
abbrev pub fields : ℕ → ℕ → ℕ → List Field
fields s b n =
    ("version", 4, λ g. number g 4 least_version most_version refusals.version)
    ∷ ("name size", 8, λ g. number g 8 least_name most_name refusals.the_name_size)
    ∷ ("name", s, whole_bytes)
    ∷ ("dense", 1, λ g. flag_but g g.entry.flag refusals.dense)
    ∷ ("null domain", 1, λ g. flag_but g 1 refusals.the_null_domain)
    ∷ ("domain", b, λ g. sound g b)
    ∷ ("tiles", 8, λ g. number g 8 g.entry.least g.entry.most refusals.tiles)
    ∷ ("last cells", 8, the_last_cells)
    ∷ ("timestamps", 1, flag)
    ∷ ("deletes", 1, flag)
    ∷ ("file sizes", 8 * n, free)
    ∷ ("file var sizes", 8 * n, free)
    ∷ ("file validity sizes", 8 * n, free)
    ∷ ("R-tree", 8, λ g. offsets g 1)
    ∷ ("tile offsets", 8 * n, λ g. offsets g n)
    ∷ ("var offsets", 8 * n, λ g. offsets g n)
    ∷ ("var sizes", 8 * n, λ g. offsets g n)
    ∷ ("validity", 8 * n, λ g. offsets g n)
    ∷ ("mins", 8 * n, λ g. offsets g n)
    ∷ ("maxes", 8 * n, λ g. offsets g n)
    ∷ ("sums", 8 * n, λ g. offsets g n)
    ∷ ("null counts", 8 * n, λ g. offsets g n)
    ∷ ("fragment", 8, λ g. offsets g 1)
    ∷ ("conditions", 8, λ g. offsets g 1)
    ∷ ("length", 8, length_field)
    ∷ []

-- the bytes of all of them, and of those before one
abbrev pub all_bytes : List Field → ℕ
all_bytes [] = 0
all_bytes ((name, width, checks) ∷ rest) = width + all_bytes rest

abbrev pub bytes_before : String → List Field → ℕ
bytes_before field [] = 0
bytes_before field ((name, width, checks) ∷ rest) = cond (eqt field name) 0 (width + bytes_before field rest)

-- the fields before one, and those from one on
abbrev pub until : String → List Field → List Field
until field [] = []
until field ((name, width, checks) ∷ rest) = cond (eqt field name) [] ((name, width, checks) ∷ until field rest)

abbrev pub from : String → List Field → List Field
from field [] = []
from field ((name, width, checks) ∷ rest) = cond (eqt field name) ((name, width, checks) ∷ rest) (from field rest)

-- the name size, which stands before all that depends on it
abbrev pub name_size_of : List ℕ → ℕ
name_size_of footer = little footer 4 8

module _ (d : Description) (footer : List ℕ) where
  abbrev pub fields_of : List Field
  fields_of = fields (name_size_of footer) (bytes_of_box d) d.fields

  -- each field starts where the one before it ends
  unfoldable pub start : String → ℕ
  start field = bytes_before field fields_of

  -- 64 + s + B + 88N
  unfoldable pub footer_bytes : ℕ
  footer_bytes = all_bytes fields_of

  -- a field as a flag byte, and as a u64
  abbrev pub byte_of : String → ℕ
  byte_of field = get_or footer (start field) 0

  abbrev pub number_of : String → ℕ
  number_of field = little footer (start field) 8

  abbrev pub tiles_of : ℕ
  tiles_of = number_of "tiles"

  abbrev pub last_cells_of : ℕ
  last_cells_of = number_of "last cells"

  abbrev pub domain_bytes : List ℕ
  domain_bytes = take (bytes_of_box d) (drop (start "domain") footer)
