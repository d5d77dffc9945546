-- Where the checks stop nothing, the body is filled in and the buffer is the definition's; where one stops it, the buffer is
-- as it was.
-- Assumes nothing.
use mathlib.Core.Path.{◌≡◌, refl, sym, ◌∙◌}
use mathlib.Core.Bool.{Bool, true, false, cond}
use mathlib.Core.List.{List, ◌++◌}
use Prim.Native.Nat.{ℕ, ◌≤◌}
use native.Mathlib.Omega.{arith}
use lib.Dec.{eqb}
use lib.ListN.{length, drop}
use borrow.Author.Tests.{eq-eqb, ne_eqb, eqb-true, ltb-false}
use Rattle.answers.proofs.Checks.{clear, check-clear}
use Rattle.description.specs.declared.Description.{Description}
use Rattle.description.specs.Description.{bytes_of_box}
use Rattle.tree.specs.Shape.{body_bytes}
use Rattle.written.specs.Body.{written_body}
use Rattle.written.specs.Writing.{refused_writing, length_told, write_refusal, write_refusal_by, write_answer, write_answer_by, write_buffer, write_buffer_by}
use Rattle.written.proofs.Tree.{Cleared, write-cleared, written-length}
use Rattle.writer.specs.Code.Rows.{Filling}

module _ (d : Description) (n f : ℕ) (leaves : List ℕ) (room : ℕ) where
  -- the number that is answered is the refusal's
  pub same_number : (write_answer d n f leaves room).number ≡ (write_refusal d n f leaves room).number
  unfolding write_answer_by
  same_number = go (eqb (write_refusal d n f leaves room).number 0) refl
    where
      go : (t : Bool) → eqb (write_refusal d n f leaves room).number 0 ≡ t
          → (cond t (length_told (length (written_body d n f leaves))) (refused_writing (write_refusal d n f leaves room))).number
          ≡ (write_refusal d n f leaves room).number
      go true e = sym (eqb-true _ 0 e)
      go false e = refl

-- what is not refused is filled
module _ (d : Description) (n f : ℕ) (leaves out : List ℕ) (h : (write_refusal d n f leaves (length out)).number ≡ 0) where
  abbrev told : Cleared d n f leaves
  told = write-cleared d n f leaves (length out) h

  enough : length (written_body d n f leaves) ≤ length out
  unfolding write_refusal_by
  enough =
      let a = clear _ _ h in
      let b = clear _ _ a.1 in
      let c = clear _ _ b.1 in
      let e = clear _ _ c.1 in
      ltb-false _ _ (check-clear _ _ _ (omega arith) e.0)

  pub to_fill : Filling d n f leaves out
  to_fill = record {
    sizes = told.sizes;
    whole = told.whole;
    sound = told.sound;
    room = omega (arith, enough, written-length d n f leaves told);
  }

  pub filled : (new : List ℕ) → new ≡ written_body d n f leaves ++ drop (body_bytes f n (bytes_of_box d)) out → new ≡ write_buffer d n f leaves out
  unfolding write_buffer_by
  filled new e = e ∙ rw (eq-eqb _ 0 h, written-length d n f leaves told)

pub kept : (d : Description) (n f : ℕ) (leaves out : List ℕ) → ((write_refusal d n f leaves (length out)).number ≡ 0 → ⊥) → out ≡ write_buffer d n f leaves out
unfolding write_buffer_by
kept d n f leaves out h = rw (ne_eqb _ 0 h)
