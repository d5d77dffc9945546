-- What does a footer answer by other rules? By two that agree on the description and on the footer's own n, the same,
-- refusals too: the rules are asked in two checks of the list and nowhere else. Without a float32 dimension this is so of
-- the rules of this library and of those just before float32 was retired (`unmoved`), and for at most 65,536 tiles of the
-- earlier ones (`as_before`). An n above the most tiles is refused with 10 at its start
-- once no check before it refuses; what comes after it is not looked at (`too_many`).
-- Assumes nothing.
use mathlib.Core.Path.{◌≡◌, ◌∙◌}
use mathlib.Core.Bool.{true}
use mathlib.Core.List.{List, ◌++◌}
use Prim.Native.Nat.{ℕ, ◌≤◌, ◌<◌}
use native.Mathlib.Omega.{arith}
use borrow.Author.Tests.{lt-ltb}
use Rattle.answers.specs.Refusals as refusals
use Rattle.answers.specs.Refusals.{refusal}
use Rattle.answers.specs.Checks.{otherwise, first}
use Rattle.answers.specs.declared.Refusal.{Refusal}
use Rattle.answers.proofs.Checks.{go_on, both-clear, clear, check-clear, stop-check, first-append}
use Rattle.description.specs.declared.Description.{Description}
use Rattle.description.specs.Limits.{least_tiles, outside}
use Rattle.description.specs.Rules.{Rules, current, before, earlier}
use Rattle.description.proofs.Tests.{or-true}
use Rattle.description.proofs.Limits.{within}
use Rattle.description.proofs.Rules.{Agree, Unretired, unretired, few}
use Rattle.footer.specs.Fields.{number_outside, fields_of, until, from, start, tiles_of}
use Rattle.footer.specs.Checks.{sparse_by, front_checks, checks_of, entry_refusal, footer_refusal_by}
use Rattle.footer.specs.Answer.{entry_checked, entry_answer, entry_name}
use Rattle.footer.specs.Answer.{checked_answer, checked_answer_by, footer_answer, footer_answer_by, schema_name, schema_name_by}
use Rattle.footer.specs.Answer.{tile_cells, tile_cells_by, all_cells, all_cells_by}

module _ {a b : Rules} (d : Description) (F : ℕ) (footer : List ℕ) (same : Agree a b d (tiles_of d footer)) where
  pub same-refusal : footer_refusal_by a d F footer ≡ footer_refusal_by b d F footer
  unfolding entry_refusal number_outside
  same-refusal = rw (same.further, same.number.tiles)

  pub same-checked : checked_answer_by a d F footer ≡ checked_answer_by b d F footer
  unfolding entry_checked
  same-checked = rw same-refusal

  pub same-footer : footer_answer_by a d F footer ≡ footer_answer_by b d F footer
  unfolding entry_answer
  same-footer = rw same-refusal

  pub same_name : schema_name_by a d F footer ≡ schema_name_by b d F footer
  unfolding entry_name
  same_name = rw same-checked

  pub same-cells : (i : ℕ) → tile_cells_by a d F footer i ≡ tile_cells_by b d F footer i
  unfolding tile_cells_by
  same-cells i = rw same-checked

  pub same_total : all_cells_by a d F footer ≡ all_cells_by b d F footer
  unfolding all_cells_by
  same_total = rw same-checked

-- every answer about a footer, by this library's rules and by others
pub record SameAnswers (others : Rules) (d : Description) (F : ℕ) (footer : List ℕ) : Type 0 where
  pub checked : checked_answer d F footer ≡ checked_answer_by others d F footer
  pub numbers : footer_answer d F footer ≡ footer_answer_by others d F footer
  pub name : schema_name d F footer ≡ schema_name_by others d F footer
  pub cells : (i : ℕ) → tile_cells d F footer i ≡ tile_cells_by others d F footer i
  pub total : all_cells d F footer ≡ all_cells_by others d F footer

-- by rules that agree with this library's on the footer's own n
pub same-answers : {others : Rules} (d : Description) (F : ℕ) (footer : List ℕ) → Agree current others d (tiles_of d footer)
    → SameAnswers others d F footer
same-answers d F footer same =
    record {
      checked = same-checked d F footer same;
      numbers = same-footer d F footer same;
      name = same_name d F footer same;
      cells = same-cells d F footer same;
      total = same_total d F footer same;
    }

-- Without a float32 dimension a footer is answered as just before float32 was retired, refusals too.
pub unmoved : (d : Description) (F : ℕ) (footer : List ℕ) → Unretired d → SameAnswers before d F footer
unmoved d F footer u = same-answers d F footer (unretired d (tiles_of d footer) u)

-- And one that says at most 65,536 tiles is answered as with the earlier limit.
pub as_before : (d : Description) (F : ℕ) (footer : List ℕ) → Unretired d → tiles_of d footer ≤ earlier.tiles → SameAnswers earlier d F footer
as_before d F footer u h = same-answers d F footer (few d (tiles_of d footer) u h)

module _ (rules : Rules) (d : Description) (F : ℕ) (footer : List ℕ) where
  -- the checks before n, in their order
  abbrev pub before_tiles : List Refusal
  before_tiles = front_checks (sparse_by rules d) d footer ++ checks_of (sparse_by rules d) d F footer (until "tiles" (fields_of d footer))

  -- and those from n on
  abbrev from_tiles : List Refusal
  from_tiles = checks_of (sparse_by rules d) d F footer (from "tiles" (fields_of d footer))

  parted : footer_refusal_by rules d F footer ≡ otherwise (first before_tiles) (first from_tiles)
  unfolding entry_refusal
  parted = first-append before_tiles from_tiles

  -- A footer that passes has an n within the rules' limits.
  pub tiles-within : (footer_refusal_by rules d F footer).number ≡ 0 → (least_tiles ≤ tiles_of d footer) × (tiles_of d footer ≤ rules.tiles)
  unfolding number_outside
  tiles-within h =
      let from = (both-clear (first before_tiles) (first from_tiles) (rw parted at h)).1 in
      within least_tiles rules.tiles (tiles_of d footer) (check-clear _ _ _ (omega arith) (clear _ _ from).0)

  -- A larger n, in a footer that is sound up to there, is refused with 10 at its start.
  pub too_many : (first before_tiles).number ≡ 0 → rules.tiles < tiles_of d footer
      → footer_refusal_by rules d F footer ≡ refusal refusals.tiles (start d footer "tiles")
  unfolding number_outside
  too_many sound more =
      let above : outside least_tiles rules.tiles (tiles_of d footer) ≡ true = rw (lt-ltb _ _ more, or-true) in
      parted ∙ go_on (first before_tiles) (first from_tiles) sound ∙ stop-check _ _ _ _ above (omega arith)
