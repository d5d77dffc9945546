-- A footer with its float32 domain ranges as float64.
-- Assumes nothing.
use Rattle.std.specs.Prelude.{ℕ, ◌-◌, List, ◌++◌, length, take, drop}
use Rattle.answers.specs.declared.Refusal.{Refusal}
use Rattle.order.specs.Little.{bytes_of}
use Rattle.description.specs.declared.Description.{Description}
use Rattle.description.specs.Description.{sides_of}
use Rattle.description.specs.Rules.{before}
use Rattle.footer.specs.declared.Footer.{Footer}
use Rattle.footer.specs.Fields.{start, domain_bytes}
use Rattle.footer.specs.Checks.{footer_refusal_by}
use Rattle.widened.specs.declared.Converted.{Converted}
use Rattle.widened.specs.Widened.{widened_box, widened_sides}
use Rattle.widened.specs.Answered.{answered, laid_in}

module _ (d : Description) (footer : List ℕ) where
  -- the bytes before the domain, the widened domain, and the fields from the tile number to the length field
  unfoldable pub widened_fields : List ℕ
  widened_fields =
      take (start d footer "domain") footer
      ++ (widened_box d.kinds (sides_of d.dimensions) (domain_bytes d footer)
      ++ take (start d footer "length" - start d footer "tiles") (drop (start d footer "tiles") footer))

  -- the length field says how many bytes there are before it
  abbrev pub widened_footer : List ℕ
  widened_footer = widened_fields ++ bytes_of 8 (length widened_fields)

module _ (d : Description) (F : ℕ) (footer : List ℕ) where
  -- what was said of the footer just before float32 was retired
  abbrev pub footer_before : Refusal
  footer_before = footer_refusal_by before d F footer

  -- That; then 26, place 0, exactly if the output buffer is shorter than the widened footer. Success tells its length.
  unfoldable pub footer_converted : ℕ → Converted
  footer_converted = answered footer_before.number footer_before.place 0 (widened_footer d footer)

  -- A refusal writes nothing; bytes past the footer stay.
  unfoldable pub footer_buffer : List ℕ → List ℕ
  footer_buffer = laid_in footer_before.number footer_before.place 0 (widened_footer d footer)

-- the numbers of an old footer with its domain widened, and so with another number in its length field
abbrev pub widened_numbers : ℕ → Footer → Footer
widened_numbers bytes f = record {
  number = f.number;
  place = f.place;
  version = f.version;
  name_size = f.name_size;
  dense = f.dense;
  null_domain = f.null_domain;
  domain = widened_sides f.domain;
  tiles = f.tiles;
  last_cells = f.last_cells;
  timestamps = f.timestamps;
  deletes = f.deletes;
  file_sizes = f.file_sizes;
  file_var_sizes = f.file_var_sizes;
  file_validity_sizes = f.file_validity_sizes;
  rtree = f.rtree;
  tile_offsets = f.tile_offsets;
  var_offsets = f.var_offsets;
  var_sizes = f.var_sizes;
  validity = f.validity;
  mins = f.mins;
  maxes = f.maxes;
  sums = f.sums;
  null_counts = f.null_counts;
  fragment = f.fragment;
  conditions = f.conditions;
  length = bytes;
}
