-- The order of checks in the parts that the code goes through: a list of checks in two parts says what the first part
-- says, or else what the second does. At the places that the code works out, the checks are the definition's.
-- Assumes nothing.
use mathlib.Core.Path.{◌≡◌, refl, ap, sym, ◌∙◌}
use mathlib.Core.Bool.{not}
use mathlib.Core.List.{List, [], ◌∷◌, ◌++◌}
use Prim.Native.Nat.{ℕ, ◌+◌, ◌-◌, ◌*◌}
use lib.Dec.{eqb}
use lib.ListN.{length, take, drop}
use Rattle.answers.specs.Refusals as refusals
use Rattle.answers.specs.Checks.{otherwise, first}
use Rattle.answers.specs.declared.Refusal.{Refusal}
use Rattle.answers.proofs.Checks.{first-append, regroup}
use Rattle.order.specs.Little.{little}
use Rattle.description.specs.declared.Description.{Description}
use Rattle.description.specs.Description.{limits_refusal, sides_of, bytes_of_box}
use Rattle.boxes.specs.Boxes.{ranges_refusal}
use Rattle.footer.specs.Fields.{start, footer_bytes, no_flag, flag_is, number_outside, file_offsets_refusal, wrong_bytes, only_if, fields_of, until, from}
use Rattle.footer.specs.declared.Entry.{Entry}
use Rattle.footer.specs.Checks.{checks_of, entry_refusal}
use Rattle.footer.specs.Code.Places.{name_checks, fields_checks, head_checks, size_checks, checks_before_tiles, checks_from_tiles}
use Rattle.footer.proofs.Fields.{null-domain-next, domain-next, length_last, after}
use Rattle.footer.proofs.Offsets.{offsets_from, offsets_run}

module _ (entry : Entry) (d : Description) (F : ℕ) (footer : List ℕ) where
  pub footer-parts : entry_refusal entry d F footer
      ≡ otherwise (first (head_checks entry d footer)) (otherwise (first (size_checks entry d footer F))
      (otherwise (first (checks_before_tiles entry d footer)) (first (checks_from_tiles entry d footer F))))
  unfolding entry_refusal
  footer-parts =
      first-append (head_checks entry d footer) (size_checks entry d footer F ++ (checks_before_tiles entry d footer ++ checks_from_tiles entry d footer F))
      ∙ ap (otherwise (first (head_checks entry d footer)))
      (first-append (size_checks entry d footer F) (checks_before_tiles entry d footer ++ checks_from_tiles entry d footer F)
      ∙ ap (otherwise (first (size_checks entry d footer F))) (first-append (checks_before_tiles entry d footer) (checks_from_tiles entry d footer F)))

  -- as the code goes: what is said of the description, and all after it; of that the parts
  pub front-parts : entry_refusal entry d F footer
      ≡ otherwise (otherwise (limits_refusal d) entry.further) (first (fields_checks entry d footer F))
  unfolding entry_refusal first start
  front-parts = sym (regroup (limits_refusal d) entry.further (first (fields_checks entry d footer F)))

  pub rest-parts : first (fields_checks entry d footer F)
      ≡ otherwise (first (name_checks footer))
      (first (size_checks entry d footer F ++ (checks_before_tiles entry d footer ++ checks_from_tiles entry d footer F)))
  rest-parts =
      first-append (name_checks footer) (size_checks entry d footer F ++ (checks_before_tiles entry d footer ++ checks_from_tiles entry d footer F))

-- the checks before the tile number, by the start of the dense flag
module _ (entry : Entry) (d : Description) (footer : List ℕ) (dense : ℕ) where
  abbrev ranges : Refusal
  ranges = ranges_refusal d.kinds (sides_of d.dimensions) (take (bytes_of_box d) (drop (dense + 2) footer)) (dense + 2)

  abbrev pub before_at : List Refusal
  before_at =
      no_flag footer dense
      ∷ flag_is footer entry.flag refusals.dense dense
      ∷ no_flag footer (dense + 1)
      ∷ flag_is footer 1 refusals.the_null_domain (dense + 1)
      ∷ ranges
      ∷ []

  pub before-listed : dense ≡ start d footer "dense" → first before_at ≡ first (checks_before_tiles entry d footer)
  before-listed p = ap first (rw (p, null-domain-next d footer, domain-next d footer))

module _ (entry : Entry) (d : Description) (F : ℕ) (footer : List ℕ) where
  -- the checks from the tile number's on, by its start
  abbrev pub from_at : ℕ → List Refusal
  from_at tiles =
      number_outside footer 8 entry.least entry.most refusals.tiles tiles
      ∷ only_if entry.cells (number_outside footer 8 1 d.capacity refusals.the_last_cells (tiles + 8))
      ∷ no_flag footer (tiles + 16)
      ∷ no_flag footer (tiles + 17)
      ∷ file_offsets_refusal footer (F - length footer) (8 * d.fields + 3) (tiles + 18 + 24 * d.fields)
      ∷ wrong_bytes footer (not (eqb (little footer (length footer - 8) 8) (length footer - 8)))
      ∷ []

  pub from-listed : (tiles : ℕ) → length footer ≡ footer_bytes d footer → tiles ≡ start d footer "tiles"
      → first (from_at tiles) ≡ first (checks_from_tiles entry d footer F)
  from-listed tiles h q =
      let a = after d footer (start d footer "tiles") d.fields refl refl in
      let front = checks_of entry d F footer (until "R-tree" (from "tiles" (fields_of d footer))) in
      ap first (rw (h, q, a.last-cells, a.timestamps, a.deletes, a.rtree, length_last d footer))
      ∙ first-append front (offsets_from entry d F footer)
      ∙ ap (otherwise (first front)) (sym (offsets_run entry d F footer))
      ∙ sym (first-append front (checks_of entry d F footer (from "R-tree" (fields_of d footer))))
