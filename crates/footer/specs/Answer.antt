-- What an accepted footer answers: every number and the domain; and the cells of its tiles.
-- Assumes nothing.
use Rattle.std.specs.Prelude.{cond, ℕ, ◌+◌, ◌-◌, ◌*◌, List, [], ◌∷◌, ltb, eqb, take, drop, replicate}
use Prim.Native.String.{String}
use Rattle.answers.specs.Runs.{filled}
use Rattle.order.specs.Little.{little}
use Rattle.description.specs.declared.Description.{Description}
use Rattle.description.specs.Limits.{most_fields}
use Rattle.description.specs.Description.{sides_of}
use Rattle.boxes.specs.Boxes.{no_box, box_of}
use Rattle.footer.specs.declared.Checked.{Checked}
use Rattle.footer.specs.declared.Footer.{Footer}
use Rattle.footer.specs.Fields.{start, name_size_of, byte_of, number_of, tiles_of, last_cells_of, domain_bytes}
use Rattle.description.specs.Rules.{Rules, current}
use Rattle.footer.specs.declared.Entry.{Entry}
use Rattle.footer.specs.Checks.{sparse_by, dense_entry, entry_refusal}

-- Tile i, counted from 0, holds C cells, the last one its own number, any i from n on none.
unfoldable pub cells_of : ℕ → ℕ → ℕ → ℕ → ℕ
cells_of n last c i = cond (ltb (i + 1) n) c (cond (eqb (i + 1) n) last 0)

-- the whole is (n-1)C + last; none where there is no tile
unfoldable pub total_cells : ℕ → ℕ → ℕ → ℕ
total_cells n last c = cond (eqb n 0) 0 ((n - 1) * c + last)

-- the first m entries of the list that starts at a place, and 0 in the list places past them
unfoldable pub entries : List ℕ → ℕ → ℕ → List ℕ
entries footer m at = filled (λ i. little footer (at + 8 * i) 8) 0 m most_fields

-- A refusal has 0 in every other number, and an int64 range 0 to 0 in all box places.
abbrev pub zeros : List ℕ
zeros = replicate most_fields 0

unfoldable pub refused_checked : ℕ → ℕ → Checked
refused_checked number place = record {
  number = number;
  place = place;
  name_size = 0;
  domain = 0;
  tiles = 0;
  last_cells = 0;
}

unfoldable pub refused_footer : ℕ → ℕ → Footer
refused_footer number place = record {
  number = number;
  place = place;
  version = 0;
  name_size = 0;
  dense = 0;
  null_domain = 0;
  domain = no_box;
  tiles = 0;
  last_cells = 0;
  timestamps = 0;
  deletes = 0;
  file_sizes = zeros;
  file_var_sizes = zeros;
  file_validity_sizes = zeros;
  rtree = 0;
  tile_offsets = zeros;
  var_offsets = zeros;
  var_sizes = zeros;
  validity = zeros;
  mins = zeros;
  maxes = zeros;
  sums = zeros;
  null_counts = zeros;
  fragment = 0;
  conditions = 0;
  length = 0;
}

-- the numbers of an answer and its lists, in footer order
abbrev pub numbers_of : Footer → List ℕ
numbers_of f =
    f.version ∷ f.name_size ∷ f.dense ∷ f.null_domain ∷ f.tiles ∷ f.last_cells ∷ f.timestamps ∷ f.deletes
    ∷ f.rtree ∷ f.fragment ∷ f.conditions ∷ f.length ∷ []

abbrev pub lists_of : Footer → List (List ℕ)
lists_of f =
    f.file_sizes ∷ f.file_var_sizes ∷ f.file_validity_sizes ∷ f.tile_offsets ∷ f.var_offsets ∷ f.var_sizes
    ∷ f.validity ∷ f.mins ∷ f.maxes ∷ f.sums ∷ f.null_counts ∷ []

-- Accepted, the answer carries every number and the domain.
module _ (d : Description) (footer : List ℕ) where
  abbrev pub list_of : String → List ℕ
  list_of field = entries footer d.fields (start d footer field)

  unfoldable pub accepted_checked : Checked
  accepted_checked = record {
    number = 0;
    place = 0;
    name_size = name_size_of footer;
    domain = start d footer "domain";
    tiles = tiles_of d footer;
    last_cells = last_cells_of d footer;
  }

  unfoldable pub accepted_footer : Footer
  accepted_footer = record {
    number = 0;
    place = 0;
    version = little footer (start d footer "version") 4;
    name_size = name_size_of footer;
    dense = byte_of d footer "dense";
    null_domain = byte_of d footer "null domain";
    domain = box_of d.kinds (sides_of d.dimensions) (domain_bytes d footer);
    tiles = tiles_of d footer;
    last_cells = last_cells_of d footer;
    timestamps = byte_of d footer "timestamps";
    deletes = byte_of d footer "deletes";
    file_sizes = list_of "file sizes";
    file_var_sizes = list_of "file var sizes";
    file_validity_sizes = list_of "file validity sizes";
    rtree = number_of d footer "R-tree";
    tile_offsets = list_of "tile offsets";
    var_offsets = list_of "var offsets";
    var_sizes = list_of "var sizes";
    validity = list_of "validity";
    mins = list_of "mins";
    maxes = list_of "maxes";
    sums = list_of "sums";
    null_counts = list_of "null counts";
    fragment = number_of d footer "fragment";
    conditions = number_of d footer "conditions";
    length = number_of d footer "length";
  }

-- The answers, and the further requests, by an entry.
module _ (entry : Entry) (d : Description) (F : ℕ) (footer : List ℕ) where
  abbrev pub unless_refused : {A : Type 0} → A → (ℕ → ℕ → A) → A
  unless_refused answer refused =
      cond (eqb (entry_refusal entry d F footer).number 0) answer
      (refused (entry_refusal entry d F footer).number (entry_refusal entry d F footer).place)

  unfoldable pub entry_checked : Checked
  entry_checked = unless_refused (accepted_checked d footer) refused_checked

  unfoldable pub entry_answer : Footer
  entry_answer = unless_refused (accepted_footer d footer) refused_footer

  -- the schema name as that part of the lent footer; for a footer that is refused an empty part
  unfoldable pub entry_name : List ℕ
  entry_name = take entry_checked.name_size (drop (start d footer "name") footer)

-- by the sparse entry and by rules
module _ (rules : Rules) (d : Description) (F : ℕ) (footer : List ℕ) where
  abbrev pub checked_answer_by : Checked
  checked_answer_by = entry_checked (sparse_by rules d) d F footer

  abbrev pub footer_answer_by : Footer
  footer_answer_by = entry_answer (sparse_by rules d) d F footer

  abbrev pub schema_name_by : List ℕ
  schema_name_by = entry_name (sparse_by rules d) d F footer

  -- the cells of tile i, and of the whole; for a refused footer both are 0
  unfoldable pub tile_cells_by : ℕ → ℕ
  tile_cells_by i = cells_of checked_answer_by.tiles checked_answer_by.last_cells d.capacity i

  unfoldable pub all_cells_by : ℕ
  all_cells_by = total_cells checked_answer_by.tiles checked_answer_by.last_cells d.capacity

-- by the rules of this library
module _ (d : Description) (F : ℕ) (footer : List ℕ) where
  abbrev pub checked_answer : Checked
  checked_answer = checked_answer_by current d F footer

  abbrev pub footer_answer : Footer
  footer_answer = footer_answer_by current d F footer

  abbrev pub schema_name : List ℕ
  schema_name = schema_name_by current d F footer

  abbrev pub tile_cells : ℕ → ℕ
  tile_cells = tile_cells_by current d F footer

  abbrev pub all_cells : ℕ
  all_cells = all_cells_by current d F footer

-- by the dense entry, which has no cells
module _ (d : Description) (F : ℕ) (footer : List ℕ) where
  abbrev pub dense_checked : Checked
  dense_checked = entry_checked (dense_entry d) d F footer

  abbrev pub dense_footer_answer : Footer
  dense_footer_answer = entry_answer (dense_entry d) d F footer

  abbrev pub dense_schema_name : List ℕ
  dense_schema_name = entry_name (dense_entry d) d F footer
