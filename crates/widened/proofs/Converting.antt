-- What is promised of the converter: what it writes is the same tree (`same-tree`), it refuses what opening refused, in
-- the same words, and nothing else (`as-opening`, `opened-before`), but a room that is too short (`too_short`,
-- `enough`).
-- Assumes nothing.
use mathlib.Core.Path.{◌≡◌, sym, ◌∙◌}
use mathlib.Core.List.{List, ◌++◌}
use Prim.Native.Nat.{ℕ, ◌≤◌, ◌<◌}
use lib.ListN.{length, drop}
use Rattle.answers.specs.Refusals as refusals
use Rattle.description.specs.declared.Description.{Description}
use Rattle.description.specs.Description.{bytes_of_box}
use Rattle.description.specs.Rules.{before}
use Rattle.tree.specs.Shape.{body_bytes}
use Rattle.footer.specs.Fields.{tiles_of}
use Rattle.footer.specs.Checks.{footer_refusal_by}
use Rattle.rtree.specs.Body.{fanout_of}
use Rattle.rtree.specs.Opening.{open_answer_by}
use Rattle.written.proofs.Again.{count-there}
use Rattle.widened.specs.Widened.{widened_description}
use Rattle.widened.specs.Footers.{widened_footer, footer_converted}
use Rattle.widened.specs.Converting.{converted, convert_answer, convert_buffer, SameTree}
use Rattle.widened.proofs.Answered.{nothing-laid, refused, short, told, laid_out, none_before}
use Rattle.widened.proofs.Tree.{tree-fanout, tree-levels, tree-length, tree-count, tree-box}
use Rattle.widened.proofs.Queries.{same-query}
use Rattle.widened.proofs.Opened.{opened-passed, opened-shape, widened-opens}

module _ (d : Description) (F : ℕ) (footer body : List ℕ) where
  -- what opening refused
  pub as-opening : (room : ℕ) → ((open_answer_by before d F footer body).number ≡ 0 → ⊥)
      → convert_answer d F footer body room
      ≡ record {
        number = (open_answer_by before d F footer body).number;
        place = (open_answer_by before d F footer body).place;
        which = (open_answer_by before d F footer body).which;
        length = 0;
      }
  unfolding convert_answer
  as-opening room h = refused _ _ _ (converted d footer body) h room

  -- and nothing else is converted
  pub opened-before : (room : ℕ) → (convert_answer d F footer body room).number ≡ 0 → (open_answer_by before d F footer body).number ≡ 0
  unfolding convert_answer
  opened-before = none_before _ _ _ (converted d footer body)

  -- a refusal writes nothing
  pub nothing_written : (out : List ℕ) → ((convert_answer d F footer body (length out)).number ≡ 0 → ⊥) → convert_buffer d F footer body out ≡ out
  unfolding convert_answer convert_buffer
  nothing_written out h = nothing-laid _ _ _ (converted d footer body) out h

  module _ (h : (open_answer_by before d F footer body).number ≡ 0) where
    abbrev n : ℕ
    n = tiles_of d footer

    -- what is written is the same tree
    pub same-tree : SameTree d (tiles_of d footer) body (converted d footer body)
    same-tree =
        let p = opened-passed d F footer body h in
        record {
          fanout = tree-fanout d n body p;
          levels = tree-levels d n body p;
          counts = λ j up. tree-count d n body p j up ∙ sym (count-there n (bytes_of_box d) body p (opened-shape d F footer body h) j up);
          box = tree-box d n body p;
          query = same-query d n body;
          opens = widened-opens d F footer body h;
        }

    -- it has 8 + 8L + B times all boxes, B that of the widened description
    pub converted-length : length (converted d footer body) ≡ body_bytes (fanout_of body) (tiles_of d footer) (bytes_of_box (widened_description d))
    converted-length = tree-length d n body (opened-passed d F footer body h)

    -- 26 exactly if the room is shorter, and then nothing is written
    pub too_short : (room : ℕ) → room < length (converted d footer body)
        → convert_answer d F footer body room ≡ record { number = refusals.room; place = 0; which = 0; length = 0 }
    unfolding convert_answer
    too_short room l = short _ _ _ (converted d footer body) h room l

    pub enough : (room : ℕ) → length (converted d footer body) ≤ room
        → convert_answer d F footer body room ≡ record { number = 0; place = 0; which = 0; length = length (converted d footer body) }
    unfolding convert_answer
    enough room l = told _ _ _ (converted d footer body) h room l

    pub written : (out : List ℕ) → length (converted d footer body) ≤ length out
        → convert_buffer d F footer body out ≡ converted d footer body ++ drop (length (converted d footer body)) out
    unfolding convert_buffer
    written out l = laid_out _ _ _ (converted d footer body) h out l

-- a footer is converted only where its check refused nothing
pub footer-before : (d : Description) (F : ℕ) (footer : List ℕ) (room : ℕ) → (footer_converted d F footer room).number ≡ 0
    → (footer_refusal_by before d F footer).number ≡ 0
unfolding footer_converted
footer-before d F footer = none_before _ _ 0 (widened_footer d footer)
