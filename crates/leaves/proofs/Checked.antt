-- What each check that stops the code says is what the definition answers, since the checks before it said nothing; and where
-- none of them stops it, the body's length.
-- Assumes nothing.
use Rattle.std.proofs.Common.{◌≡◌, ℕ, ◌*◌, not, List, ap, sym, ◌∙◌, ne_eqb, eqb-true, arith, length}
use borrow.Author.Tests.{not-false}
use lib.Dec.{ltb, eqb}
use Rattle.answers.specs.Refusals as refusals
use Rattle.answers.specs.Refusals.{none}
use Rattle.answers.specs.Checks.{check}
use Rattle.answers.specs.declared.Refusal.{Refusal}
use Rattle.answers.proofs.Checks.{past, stop, ended, check-clear}
use Rattle.description.specs.declared.Description.{Description}
use Rattle.description.specs.Description.{bytes_of_box}
use Rattle.tree.specs.declared.Shape.{Shape}
use Rattle.tree.specs.Shape.{shape_of}
use Rattle.tree.proofs.Table.{shape-bytes}
use Rattle.rtree.proofs.Passed.{box-bytes-most}
use Rattle.written.specs.Body.{written_box, written_body}
use Rattle.written.specs.Writing.{refused_writing, length_told, sizes_refusal, write_refusal, write_refusal_by, write_answer, write_answer_by}
use Rattle.written.proofs.Tree.{sizes-clear, cleared, written-length}
use Rattle.leaves.specs.Code.Sound.{leaves_refusal}

module _ (d : Description) (n f : ℕ) (leaves : List ℕ) (room : ℕ) where
  abbrev pub bytes_check : ℕ → Refusal
  bytes_check bytes = check (not (eqb (length leaves) bytes)) refusals.bytes (length leaves)

  abbrev pub room_check : ℕ → Refusal
  room_check bytes = check (ltb room bytes) refusals.room 0

  pub all_there : (bytes : ℕ) → (bytes_check bytes).number ≡ 0 → length leaves ≡ bytes
  all_there bytes h = eqb-true _ _ (not-false _ (check-clear _ refusals.bytes (length leaves) (omega arith) h))

  abbrev answered : Refusal → Type 0
  answered r = refused_writing r ≡ write_answer d n f leaves room

  -- a refusal, and none
  told-refused : (r : Refusal) → write_refusal d n f leaves room ≡ r → (r.number ≡ 0 → ⊥) → answered r
  unfolding write_answer_by
  told-refused r e h = rw (e, ne_eqb r.number 0 h)

  pub by-sizes : ((sizes_refusal d n f).number ≡ 0 → ⊥) → answered (sizes_refusal d n f)
  unfolding write_refusal_by
  by-sizes h = told-refused _ (stop _ _ h) h

  module _ (sizes : (sizes_refusal d n f).number ≡ 0) where
    pub by_bytes : ((bytes_check (n * bytes_of_box d)).number ≡ 0 → ⊥) → answered (bytes_check (n * bytes_of_box d))
    unfolding write_refusal_by
    by_bytes h = told-refused _ (past _ _ sizes ∙ stop _ _ h) h

    module _ (whole : (bytes_check (n * bytes_of_box d)).number ≡ 0) where
      pub by-leaves : ((leaves_refusal d n leaves).number ≡ 0 → ⊥) → answered (leaves_refusal d n leaves)
      unfolding write_refusal_by leaves_refusal written_box
      by-leaves h = told-refused _ (past _ _ sizes ∙ past _ _ whole ∙ stop _ _ h) h

      module _ (sound : (leaves_refusal d n leaves).number ≡ 0) where
        -- how long the body is, as the shape has it
        pub long : (b : ℕ) {s : Shape} → b ≡ bytes_of_box d → s ≡ shape_of f n b → s.bytes ≡ length (written_body d n f leaves)
        unfolding leaves_refusal written_box
        long b own e =
            let within = (sizes-clear d n f leaves sizes).1 in
            ap (λ (s : Shape). s.bytes) e
            ∙ rw own (shape-bytes within (bytes_of_box d) (box-bytes-most d))
            ∙ sym (written-length d n f leaves (cleared d n f leaves sizes whole sound))

        module _ (bytes : ℕ) (length_value : bytes ≡ length (written_body d n f leaves)) where
          pub by-room : ((room_check bytes).number ≡ 0 → ⊥) → answered (room_check bytes)
          unfolding write_refusal_by leaves_refusal written_box
          by-room h =
              told-refused _
              (past _ _ sizes
              ∙ past _ _ whole
              ∙ past _ _ sound
              ∙ rw (← length_value) (stop _ _ h))
              h

          pub by-none : (room_check bytes).number ≡ 0 → length_told bytes ≡ write_answer d n f leaves room
          unfolding write_refusal_by write_answer_by leaves_refusal written_box
          by-none h =
              let e : write_refusal d n f leaves room ≡ none =
              past _ _ sizes ∙ past _ _ whole ∙ past _ _ sound ∙ rw (← length_value) (past _ _ h) ∙ ended in
              rw (e, length_value)
