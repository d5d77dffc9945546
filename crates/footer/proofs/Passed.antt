-- What is known of a footer that is not refused: each check of the list passed. The small answer is made by that test.
-- Assumes nothing.
use mathlib.Core.Path.{◌≡◌, refl, sym, ap, ◌∙◌}
use mathlib.Core.Bool.{Bool, true, false}
use mathlib.Core.List.{List}
use Prim.Native.Nat.{ℕ, ◌+◌, ◌-◌, ◌*◌, ◌≤◌}
use native.Mathlib.Omega.{arith}
use lib.Dec.{eqb}
use lib.ListN.{length, take, drop}
use borrow.Author.Tests.{eq-eqb, ne_eqb, eqb-true, ltb-false, not-false}
use Rattle.answers.specs.Refusals as refusals
use Rattle.answers.specs.Refusals.{none}
use Rattle.answers.specs.Checks.{first}
use Rattle.answers.proofs.Checks.{clear, check-clear, both-clear}
use Rattle.description.specs.declared.Description.{Description}
use Rattle.description.specs.Limits.{least_version, most_version, least_name, most_name}
use Rattle.description.specs.Description.{sides_of, bytes_of_box, limits_refusal}
use Rattle.description.specs.Rules.{current}
use Rattle.boxes.specs.Boxes.{ranges_refusal}
use Rattle.description.proofs.Limits.{within, Kept, limits-kept}
use Rattle.footer.specs.declared.Checked.{Checked}
use Rattle.footer.specs.Fields.{start, footer_bytes, name_size_of, number_of, tiles_of, last_cells_of, domain_bytes}
use Rattle.footer.specs.Fields.{no_flag, flag_is, number_outside, file_offsets_refusal}
use Rattle.footer.specs.declared.Entry.{Entry}
use Rattle.footer.specs.Checks.{sparse_by, entry_refusal, footer_refusal}
use Rattle.footer.specs.Code.Places.{name_checks, head_checks, size_checks, checks_before_tiles, checks_from_tiles}
use Rattle.footer.specs.Answer.{accepted_checked, refused_checked, entry_checked, checked_answer}
use Rattle.footer.proofs.Domain.{ranges-anywhere}
use Rattle.footer.proofs.Fields.{footer-bytes, start-domain}
use Rattle.footer.proofs.Offsets.{offsets_run}
use Rattle.footer.proofs.Parts.{footer-parts}

-- what the checks before any other field leave
pub record Head (d : Description) (footer : List ℕ) : Type 0 where
  pub limits : (limits_refusal d).number ≡ 0
  pub description : Kept d
  pub version : (number_outside footer 4 least_version most_version refusals.version (start d footer "version")).number ≡ 0
  pub name-size : (number_outside footer 8 least_name most_name refusals.the_name_size (start d footer "name size")).number ≡ 0
  pub some-name : least_name ≤ name_size_of footer
  pub most-name : name_size_of footer ≤ most_name

module _ (entry : Entry) (d : Description) (F : ℕ) (footer : List ℕ) where
  pub names-passed : (limits_refusal d).number ≡ 0 → (first (name_checks footer)).number ≡ 0 → Head d footer
  unfolding number_outside start
  names-passed limits h =
      let e = clear _ _ h in
      let f = clear _ _ e.1 in
      let g = clear _ _ f.1 in
      let n = within least_name most_name (name_size_of footer) (check-clear _ _ _ (omega arith) g.0) in
      record {
        limits = limits;
        description = limits-kept d limits;
        version = f.0;
        name-size = g.0;
        some-name = n.0;
        most-name = n.1;
      }

  pub head_passed : (first (head_checks entry d footer)).number ≡ 0 → Head d footer
  unfolding start
  head_passed h =
      let a = clear _ _ h in
      names-passed a.0 (clear _ _ a.1).1

  pub sizes-passed : (first (size_checks entry d footer F)).number ≡ 0 → (length footer ≡ footer_bytes d footer) × (footer_bytes d footer ≤ F)
  sizes-passed h =
      let a = clear _ _ h in
      let b = clear _ _ a.1 in
      (eqb-true _ _ (not-false _ (check-clear _ _ _ (omega arith) a.0)), ltb-false _ _ (check-clear _ _ _ (omega arith) b.0))

  pub record PassedBy : Type 0 where
    pub head : Head d footer
    pub all-bytes : length footer ≡ footer_bytes d footer
    pub in-file : footer_bytes d footer ≤ F
    pub dense : (no_flag footer (start d footer "dense")).number ≡ 0
    pub not_flag : (flag_is footer entry.flag refusals.dense (start d footer "dense")).number ≡ 0
    pub null-domain : (no_flag footer (start d footer "null domain")).number ≡ 0
    pub not_null : (flag_is footer 1 refusals.the_null_domain (start d footer "null domain")).number ≡ 0
    -- the domain has no NaN and no reversed range
    pub ranges : (ranges_refusal d.kinds (sides_of d.dimensions) (domain_bytes d footer) (start d footer "domain")).number ≡ 0
    pub some-tiles : entry.least ≤ tiles_of d footer
    pub most-tiles : tiles_of d footer ≤ entry.most
    pub last : entry.cells ≡ true → (1 ≤ last_cells_of d footer) × (last_cells_of d footer ≤ d.capacity)
    pub timestamps : (no_flag footer (start d footer "timestamps")).number ≡ 0
    pub deletes : (no_flag footer (start d footer "deletes")).number ≡ 0
    -- every offset is below the footer's place in the file
    pub offsets : (file_offsets_refusal footer (F - footer_bytes d footer) (8 * d.fields + 3) (start d footer "R-tree")).number ≡ 0
    -- the length field reads 8 less than the footer's bytes
    pub length-field : number_of d footer "length" + 8 ≡ footer_bytes d footer

  pub passed-by : (entry_refusal entry d F footer).number ≡ 0 → PassedBy
  unfolding number_outside no_flag flag_is
  passed-by h =
      let b = both-clear (first (head_checks entry d footer)) _ (rw (footer-parts entry d F footer) at h) in
      let rest = both-clear (first (size_checks entry d footer F)) _ b.1 in
      let size = sizes-passed rest.0 in
      let fields = both-clear (first (checks_before_tiles entry d footer)) (first (checks_from_tiles entry d footer F)) rest.1 in
      let l1 = clear _ _ fields.0 in
      let l2 = clear _ _ l1.1 in
      let l3 = clear _ _ l2.1 in
      let l4 = clear _ _ l3.1 in
      let l5 = clear _ _ l4.1 in
      let l6 = clear _ _ fields.1 in
      let l7 = clear _ _ l6.1 in
      let l8 = clear _ _ l7.1 in
      let l9 = clear _ _ l8.1 in
      let l10 = clear _ _ (rw (offsets_run entry d F footer) at l9.1) in
      let l11 = clear _ _ l10.1 in
      let tiles = within entry.least entry.most (tiles_of d footer) (check-clear _ _ _ (omega arith) l6.0) in
      let reads =
      eqb-true (number_of d footer "length") (footer_bytes d footer - 8) (not-false _ (check-clear _ _ _ (omega arith) l11.0)) in
      record {
        head = head_passed b.0;
        all-bytes = size.0;
        in-file = size.1;
        dense = l1.0;
        not_flag = l2.0;
        null-domain = l3.0;
        not_null = l4.0;
        ranges = l5.0;
        some-tiles = tiles.0;
        most-tiles = tiles.1;
        last = λ has. within 1 d.capacity (last_cells_of d footer) (check-clear _ _ _ (omega arith) (rw has at l7.0));
        timestamps = l8.0;
        deletes = l9.0;
        offsets = l10.0;
        length-field = omega (arith, reads, footer-bytes d footer);
      }

  -- the answer by that test
  pub checked-passed : (entry_refusal entry d F footer).number ≡ 0 → entry_checked entry d F footer ≡ accepted_checked d footer
  unfolding entry_checked
  checked-passed h = rw (eq-eqb _ 0 h)

  pub refused-by : ((entry_refusal entry d F footer).number ≡ 0 → ⊥)
      → entry_checked entry d F footer ≡ refused_checked (entry_refusal entry d F footer).number (entry_refusal entry d F footer).place
  unfolding entry_checked
  refused-by h = rw (ne_eqb _ 0 h)

  -- the refusal's number is the answer's
  pub number_by : (entry_checked entry d F footer).number ≡ (entry_refusal entry d F footer).number
  unfolding entry_checked accepted_checked refused_checked
  number_by = go (eqb (entry_refusal entry d F footer).number 0) refl
    where
      go : (t : Bool) → eqb (entry_refusal entry d F footer).number 0 ≡ t
          → (entry_checked entry d F footer).number ≡ (entry_refusal entry d F footer).number
      go true e = rw e (sym (eqb-true _ 0 e))
      go false e = rw e

  -- What a caller has of the small answer where it is not refused: the box of the domain is there whole, and its ranges
  -- are sound at any place.
  pub record ReadyBy (c : Checked) : Type 0 where
    pub not-refused : (entry_refusal entry d F footer).number ≡ 0
    pub pass : PassedBy
    pub checked : c ≡ accepted_checked d footer
    pub tiles : c.tiles ≡ tiles_of d footer
    pub last-cells : c.last_cells ≡ last_cells_of d footer
    pub domain : c.domain ≡ start d footer "domain"
    pub domain-there : c.domain + bytes_of_box d ≤ length footer
    pub domain-bytes : domain_bytes d footer ≡ take (bytes_of_box d) (drop c.domain footer)
    pub ranges : (at : ℕ) → ranges_refusal d.kinds (sides_of d.dimensions) (domain_bytes d footer) at ≡ none

  there : length footer ≡ footer_bytes d footer → start d footer "domain" + bytes_of_box d ≤ length footer
  there h = omega (arith, footer-bytes d footer, start-domain d footer)

  pub ready_by : (c : Checked) → c ≡ entry_checked entry d F footer → c.number ≡ 0 → ReadyBy c
  unfolding accepted_checked
  ready_by c e h =
      let z = sym number_by ∙ sym (ap (λ (x : Checked). x.number) e) ∙ h in
      let a = passed-by z in
      rw (e ∙ checked-passed z) (record {
        not-refused = z;
        pass = a;
        checked = refl;
        tiles = refl;
        last-cells = refl;
        domain = refl;
        domain-there = there a.all-bytes;
        domain-bytes = refl;
        ranges = λ at. ranges-anywhere d.kinds (sides_of d.dimensions) (domain_bytes d footer) (start d footer "domain") at a.ranges;
      })

-- by the sparse entry and the rules of this library
module _ (d : Description) (F : ℕ) (footer : List ℕ) where
  abbrev own : Entry
  own = sparse_by current d

  abbrev pub Passed : Type 0
  Passed = PassedBy own d F footer

  pub passed : (footer_refusal d F footer).number ≡ 0 → Passed
  passed = passed-by own d F footer

  pub checked_refused : ((footer_refusal d F footer).number ≡ 0 → ⊥)
      → checked_answer d F footer ≡ refused_checked (footer_refusal d F footer).number (footer_refusal d F footer).place
  checked_refused = refused-by own d F footer

  pub checked-number : (checked_answer d F footer).number ≡ (footer_refusal d F footer).number
  checked-number = number_by own d F footer

  abbrev pub Ready : Checked → Type 0
  Ready = ReadyBy own d F footer

  pub ready : (c : Checked) → c ≡ checked_answer d F footer → c.number ≡ 0 → Ready c
  ready = ready_by own d F footer
