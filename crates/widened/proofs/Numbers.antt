-- What does the widened footer answer? The numbers of the old one, each where it stood or where the domain has moved
-- it, the domain's ranges widened, and its own length (`footer-same`).
-- Assumes nothing.
use mathlib.Core.Path.{◌≡◌, refl, ap, ◌∙◌}
use mathlib.Core.Bool.{Bool, true, false, cond}
use mathlib.Core.List.{List, [], ◌∷◌, ◌++◌}
use Prim.Native.String.{String}
use Prim.Native.Nat.{ℕ, ◌+◌, ◌*◌, ◌≤◌, ◌<◌}
use native.Mathlib.Nat.{add_assoc}
use native.Mathlib.Omega.{arith}
use lib.Dec.{ltb}
use lib.Ieee.{binary32}
use lib.ListN.{length}
use borrow.Author.Tests.{eq-eqb, ltb-true}
use Rattle.answers.specs.Runs.{over}
use Rattle.answers.proofs.Runs.{over-ext}
use Rattle.order.specs.Little.{little}
use Rattle.order.proofs.Read.{read_again}
use Rattle.description.specs.declared.Kind.{Kind}
use Rattle.description.specs.declared.Kind.TheVariants.{Int32, Int64, Float32, Float64, Uint64}
use Rattle.description.specs.declared.Dimension.{Dimension}
use Rattle.description.specs.declared.Description.{Description}
use Rattle.description.specs.Limits.{most_fields}
use Rattle.description.specs.Description.{kind_at, side_start, sides_of, bytes_of_box}
use Rattle.description.specs.Rules.{before}
use Rattle.ranges.specs.Ranges.{Ends, ends_at, range_of, range_at}
use Rattle.ranges.specs.declared.Range.{Range}
use Rattle.boxes.specs.declared.Side.{Side}
use Rattle.boxes.specs.Boxes.{no_side, side_at, box_of}
use Rattle.footer.specs.Fields.{start, number_of, domain_bytes}
use Rattle.footer.specs.Checks.{sparse_by, footer_refusal_by}
use Rattle.footer.specs.Answer.{entries, list_of, accepted_footer, entry_answer, footer_answer, footer_answer_by}
use Rattle.footer.proofs.Fields.{After, after}
use Rattle.footer.proofs.Passed.{PassedBy, passed-by}
use Rattle.footer_fields.proofs.Fields.{Later, later}
use Rattle.widened.specs.Widened.{widened_kind, widened_end, widened_range, widened_sides, widened_kinds}
use Rattle.widened.specs.Widened.{widened_description, widened_box}
use Rattle.widened.specs.Footers.{widened_fields, widened_footer, widened_numbers}
use Rattle.widened.proofs.Patterns.{same-value}
use Rattle.widened.proofs.Boxes.{box-side}
use Rattle.widened.proofs.Footers.{moved, same_version, same_name, same-dense, same-null, same-tiles}
use Rattle.widened.proofs.Footers.{same-cells, same-timestamps, same-deletes}
use Rattle.widened.proofs.Footers.{wide-domain, domain-length, length-field, footer-accepted}

-- ---- the domain
-- the range of widened ends is the widened range
range-widened : (k : Kind) (a b : ℕ) → range_of (widened_kind k) (widened_end k a) (widened_end k b) ≡ widened_range (range_of k a b)
unfolding widened_range
range-widened Int32 a b = refl
range-widened Int64 a b = refl
range-widened Float32 a b = rw (same-value a, same-value b, read_again binary32 a, read_again binary32 b)
range-widened Float64 a b = refl
range-widened Uint64 a b = refl

module _ (kinds : List Dimension) (m : ℕ) (bytes : List ℕ) (whole : length bytes ≡ side_start kinds m) where
  abbrev wide : List ℕ
  wide = widened_box kinds m bytes

  abbrev old : ℕ → Side
  old i = record { range = range_at (kind_at kinds i) bytes (side_start kinds i) }

  abbrev new : ℕ → Side
  new i = record { range = range_at (kind_at (widened_kinds kinds) i) wide (side_start (widened_kinds kinds) i) }

  range-there : (i : ℕ) → i < m → new i ≡ record { range = widened_range (old i).range }
  unfolding ends_at
  range-there i l =
      let side : Range → Side = λ r. record { range = r } in
      ap (λ (e : Ends). side (range_of e.kind e.low e.high)) (box-side kinds m bytes whole i l)
      ∙ ap side (range-widened (kind_at kinds i) (side_at kinds bytes i).low (side_at kinds bytes i).high)

  side-there : (i : ℕ) → cond (ltb i m) (new i) no_side ≡ record { range = widened_range (cond (ltb i m) (old i) no_side).range }
  unfolding widened_range
  side-there i = go (ltb i m) refl
    where
      go : (t : Bool) → ltb i m ≡ t → cond t (new i) no_side ≡ record { range = widened_range (cond t (old i) no_side).range }
      go true e = range-there i (ltb-true i m e)
      go false e = refl

  pub box-of-widened : box_of (widened_kinds kinds) m (widened_box kinds m bytes) ≡ widened_sides (box_of kinds m bytes)
  unfolding box_of over
  box-of-widened = rw (side-there 0, side-there 1, side-there 2, side-there 3)

-- ---- the numbers
-- as many entries of lists that read alike
entries-same : (a b : List ℕ) (m at to : ℕ) → ((i : ℕ) → i < m → little a (at + 8 * i) 8 ≡ little b (to + 8 * i) 8)
    → entries a m at ≡ entries b m to
unfolding entries
entries-same a b m at to same = over-ext ◌++◌ [] _ _ 0 most_fields (λ i x y. go i (ltb i m) refl)
  where
    go : (i : ℕ) (t : Bool) → ltb i m ≡ t → (cond t (little a (at + 8 * i) 8) 0 ∷ []) ≡ (cond t (little b (to + 8 * i) 8) 0 ∷ [])
    go i true e = ap (λ x. x ∷ []) (same i (ltb-true i m e))
    go i false e = refl

module _ (d : Description) (F : ℕ) (footer : List ℕ) (p : PassedBy (sparse_by before d) d F footer) where
  abbrev d' : Description
  d' = widened_description d

  abbrev footer' : List ℕ
  footer' = widened_footer d footer

  -- a field so many bytes after the tile number's start
  module _ (name : String) (t : ℕ) (there : start d' footer' name ≡ start d' footer' "tiles" + t) (here : start d footer name ≡ start d footer "tiles" + t) where
    number_same : t + 8 ≤ 42 + 88 * d.fields → number_of d' footer' name ≡ number_of d footer name
    number_same l = rw (there, here) (moved d F footer p t 8 l)

    list_same : t + 8 * d.fields ≤ 42 + 88 * d.fields → list_of d' footer' name ≡ list_of d footer name
    list_same l =
        rw (there, here)
        (entries-same footer' footer d.fields (start d' footer' "tiles" + t) (start d footer "tiles" + t) (λ i m.
        rw (add_assoc (start d' footer' "tiles") t (8 * i), add_assoc (start d footer "tiles") t (8 * i)) (moved d F footer p (t + 8 * i) 8 (omega arith))))

  domain-same : box_of d'.kinds (sides_of d'.dimensions) (domain_bytes d' footer')
      ≡ widened_sides (box_of d.kinds (sides_of d.dimensions) (domain_bytes d footer))
  unfolding bytes_of_box
  domain-same =
      rw (wide-domain d F footer p) (box-of-widened d.kinds (sides_of d.dimensions) (domain_bytes d footer) (domain-length d F footer p))

  at : Later d footer (start d footer "tiles") d.fields
  at = later d footer (start d footer "tiles") d.fields refl refl

  at' : Later d' footer' (start d' footer' "tiles") d.fields
  at' = later d' footer' (start d' footer' "tiles") d.fields refl refl

  rtree-at : After d footer (start d footer "tiles") d.fields
  rtree-at = after d footer (start d footer "tiles") d.fields refl refl

  rtree-at' : After d' footer' (start d' footer' "tiles") d.fields
  rtree-at' = after d' footer' (start d' footer' "tiles") d.fields refl refl

  accepted-same : accepted_footer d' footer' ≡ widened_numbers (length (widened_fields d footer)) (accepted_footer d footer)
  unfolding accepted_footer
  accepted-same =
      let n = d.fields in
      rw (
        same_version d F footer p,
        same_name d F footer p,
        same-dense d F footer p,
        same-null d F footer p,
        domain-same,
        same-tiles d F footer p,
        same-cells d F footer p,
        same-timestamps d F footer p,
        same-deletes d F footer p,
        list_same "file sizes" 18 (omega (arith, at'.file-sizes)) (omega (arith, at.file-sizes)) (omega arith),
        list_same "file var sizes" (18 + 8 * n) (omega (arith, at'.file-var-sizes)) (omega (arith, at.file-var-sizes)) (omega arith),
        list_same "file validity sizes" (18 + 16 * n) (omega (arith, at'.file-validity-sizes)) (omega (arith, at.file-validity-sizes)) (omega arith),
        number_same "R-tree" (18 + 24 * n) (omega (arith, rtree-at'.rtree)) (omega (arith, rtree-at.rtree)) (omega arith),
        list_same "tile offsets" (26 + 24 * n) (omega (arith, at'.tile-offsets)) (omega (arith, at.tile-offsets)) (omega arith),
        list_same "var offsets" (26 + 32 * n) (omega (arith, at'.var-offsets)) (omega (arith, at.var-offsets)) (omega arith),
        list_same "var sizes" (26 + 40 * n) (omega (arith, at'.var-sizes)) (omega (arith, at.var-sizes)) (omega arith),
        list_same "validity" (26 + 48 * n) (omega (arith, at'.validity)) (omega (arith, at.validity)) (omega arith),
        list_same "mins" (26 + 56 * n) (omega (arith, at'.mins)) (omega (arith, at.mins)) (omega arith),
        list_same "maxes" (26 + 64 * n) (omega (arith, at'.maxes)) (omega (arith, at.maxes)) (omega arith),
        list_same "sums" (26 + 72 * n) (omega (arith, at'.sums)) (omega (arith, at.sums)) (omega arith),
        list_same "null counts" (26 + 80 * n) (omega (arith, at'.null-counts)) (omega (arith, at.null-counts)) (omega arith),
        number_same "fragment" (26 + 88 * n) (omega (arith, at'.fragment)) (omega (arith, at.fragment)) (omega arith),
        number_same "conditions" (34 + 88 * n) (omega (arith, at'.conditions)) (omega (arith, at.conditions)) (omega arith),
        length-field d F footer p,
      )

-- In a file that is longer by at least as much as the domain grew, the widened footer answers the old one's numbers.
pub footer-same : (d : Description) (F : ℕ) (footer : List ℕ) → (footer_refusal_by before d F footer).number ≡ 0
    → (F' : ℕ) → F + bytes_of_box (widened_description d) ≤ F' + bytes_of_box d
    → footer_answer (widened_description d) F' (widened_footer d footer)
    ≡ widened_numbers (length (widened_fields d footer)) (footer_answer_by before d F footer)
unfolding entry_answer
footer-same d F footer h F' more =
    let p = passed-by (sparse_by before d) d F footer h in
    rw (footer-accepted d F footer p F' more, eq-eqb _ 0 h) (accepted-same d F footer p)
