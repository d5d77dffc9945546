-- The places of a footer's numbers, and of its schema name.
-- Assumes nothing.
use Rattle.std.specs.Prelude.{ℕ, cond, List, [], ◌∷◌, ◌++◌, eqb}
use Rattle.answers.specs.Runs.{join}
use Rattle.description.specs.declared.Description.{Description}
use Rattle.description.specs.Kinds.{datatype}
use Rattle.ranges.specs.declared.Range.{Range}
use Rattle.ranges.specs.Ranges.{kind_of, ends_of}
use Rattle.boxes.specs.declared.Side.{Side}
use Rattle.boxes.specs.Boxes.{range_in}
use Rattle.footer.specs.declared.Checked.{Checked}
use Rattle.footer.specs.declared.Footer.{Footer}
use Rattle.footer.specs.Fields.{start}

-- a footer's numbers
unfoldable pub number_places : Footer → List ℕ
number_places f =
    f.number
    ∷ f.place
    ∷ f.version
    ∷ f.name_size
    ∷ f.dense
    ∷ f.null_domain
    ∷ f.tiles
    ∷ f.last_cells
    ∷ f.timestamps
    ∷ f.deletes
    ∷ f.rtree
    ∷ f.fragment
    ∷ f.conditions
    ∷ f.length
    ∷ []

-- a range: its kind's Datatype number, and the bit patterns of its ends
unfoldable pub range_places : Range → List ℕ
range_places r = datatype (kind_of r) ∷ (ends_of r).low ∷ (ends_of r).high ∷ []

unfoldable pub domain_places : List Side → List ℕ
domain_places sides = join (λ i. range_places (range_in sides i)) 0 4

-- the numbers, the domain, and the lists in footer order
unfoldable pub footer_places : Footer → List ℕ
footer_places f =
    number_places f
    ++ domain_places f.domain
    ++ f.file_sizes
    ++ f.file_var_sizes
    ++ f.file_validity_sizes
    ++ f.tile_offsets
    ++ f.var_offsets
    ++ f.var_sizes
    ++ f.validity
    ++ f.mins
    ++ f.maxes
    ++ f.sums
    ++ f.null_counts

-- where the schema name starts in the footer, and its bytes; 0 and 0 where the footer is refused
abbrev pub name_places : Description → List ℕ → Checked → List ℕ
name_places d footer r = cond (eqb r.number 0) (start d footer "name") 0 ∷ r.name_size ∷ []
