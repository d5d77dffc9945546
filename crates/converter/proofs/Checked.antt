-- Where opening refuses, converting answers as it does (`refused-length`); where it accepts, its n and fanout are those
-- of what is written, and the length is the shape's (`told-length`). Where that length is told, the answer goes by the
-- room, and what is written is in the buffer (`to_fill`, `filled`).
-- Assumes nothing.
use mathlib.Core.Path.{◌≡◌, refl, sym, ap, ◌∙◌}
use mathlib.Core.List.{List, ◌++◌}
use Prim.Native.Nat.{ℕ, ◌≤◌, ◌<◌}
use native.Mathlib.Omega.{arith}
use lib.ListN.{length, drop}
use Rattle.answers.specs.Refusals as refusals
use Rattle.description.specs.declared.Description.{Description}
use Rattle.description.specs.Description.{bytes_of_box}
use Rattle.description.specs.Rules.{before}
use Rattle.tree.specs.declared.Shape.{Shape}
use Rattle.tree.specs.Shape.{shape_of}
use Rattle.tree.proofs.Table.{shape-bytes}
use Rattle.footer.specs.Fields.{tiles_of}
use Rattle.rtree.specs.declared.Opened.{Opened}
use Rattle.rtree.specs.Opening.{accepted_tree, open_answer_by}
use Rattle.rtree.proofs.Passed.{box-bytes-most}
use Rattle.widened.specs.declared.Converted.{Converted}
use Rattle.widened.specs.Widened.{widened_description}
use Rattle.widened.specs.Converting.{converted, convert_answer, convert_length, convert_buffer}
use Rattle.widened.proofs.Opened.{accepted-answer, opened-passed, opened-shape}
use Rattle.widened.proofs.Converting.{as-opening, enough, converted-length}
use Rattle.widened.proofs.Answered as answered
use Rattle.converter.specs.Code.Levels.{Filling}

module _ (d : Description) (F : ℕ) (footer body : List ℕ) where
  -- by what opening told
  module _ (r : Opened) (e : r ≡ open_answer_by before d F footer body) where
    pub refused-length : (r.number ≡ 0 → ⊥)
        → record { number = r.number; place = r.place; which = r.which; length = 0 } ≡ convert_length d F footer body
    unfolding convert_length
    refused-length h = rw e (sym (as-opening d F footer body (length (converted d footer body)) (λ z. h (ap (λ (o : Opened). o.number) e ∙ z))))

    pub told-length : r.number ≡ 0 → (wide : ℕ) (shape : Shape) → wide ≡ bytes_of_box (widened_description d) → shape ≡ shape_of r.fanout r.tiles wide
        → record { number = 0; place = 0; which = 0; length = shape.bytes } ≡ convert_length d F footer body
    unfolding convert_length
    told-length h wide shape w s =
        let opened : (open_answer_by before d F footer body).number ≡ 0 = sym (ap (λ (o : Opened). o.number) e) ∙ h in
        let is : r ≡ accepted_tree (tiles_of d footer) body = e ∙ accepted-answer before d F footer body opened in
        let bytes : shape.bytes ≡ length (converted d footer body) =
        rw (s, w, is) (shape-bytes (opened-passed d F footer body opened).sized (bytes_of_box (widened_description d)) (box-bytes-most (widened_description d))
        ∙ sym (converted-length d F footer body opened)) in
        rw bytes (sym (enough d F footer body opened (length (converted d footer body)) (omega arith)))

  -- by the length that was told
  module _ (t : Converted) (e : t ≡ convert_length d F footer body) where
    same_number : t.number ≡ (convert_length d F footer body).number
    same_number = ap (λ (c : Converted). c.number) e

    module _ (h : t.number ≡ 0 → ⊥) where
      pub refused : (room : ℕ) → t ≡ convert_answer d F footer body room
      unfolding convert_answer convert_length
      refused room = e ∙ answered.same-refused _ _ _ (converted d footer body) (λ z. h (same_number ∙ z)) room

      pub kept : (out : List ℕ) → out ≡ convert_buffer d F footer body out
      unfolding convert_buffer convert_length convert_answer
      kept out = sym (answered.refused-kept _ _ _ (converted d footer body) (λ z. h (same_number ∙ z)) out)

    module _ (h : t.number ≡ 0) where
      pub opened : (open_answer_by before d F footer body).number ≡ 0
      unfolding convert_length convert_answer
      opened = answered.none_before _ _ _ (converted d footer body) (length (converted d footer body)) (sym same_number ∙ h)

      length-is : t.length ≡ length (converted d footer body)
      unfolding convert_length
      length-is = ap (λ (c : Converted). c.length) (e ∙ enough d F footer body opened (length (converted d footer body)) (omega arith))

      pub short : (room : ℕ) → room < t.length → record { number = refusals.room; place = 0; which = 0; length = 0 } ≡ convert_answer d F footer body room
      unfolding convert_answer
      short room l = sym (answered.short _ _ _ (converted d footer body) opened room (omega (arith, length-is)))

      pub short-kept : (out : List ℕ) → length out < t.length → out ≡ convert_buffer d F footer body out
      unfolding convert_buffer
      short-kept out l = sym (answered.short-kept _ _ _ (converted d footer body) opened out (omega (arith, length-is)))

      pub told : (room : ℕ) → t.length ≤ room → t ≡ convert_answer d F footer body room
      unfolding convert_length
      told room l =
          e
          ∙ enough d F footer body opened (length (converted d footer body)) (omega arith)
          ∙ sym (enough d F footer body opened room (omega (arith, length-is)))

      pub filled : (out : List ℕ) → t.length ≤ length out
          → converted d footer body ++ drop (length (converted d footer body)) out ≡ convert_buffer d F footer body out
      unfolding convert_buffer
      filled out l = sym (answered.laid_out _ _ _ (converted d footer body) opened out (omega (arith, length-is)))

      pub to_fill : (out : List ℕ) → t.length ≤ length out
          → Filling d (tiles_of d footer) (bytes_of_box d) (bytes_of_box (widened_description d)) body out
      to_fill out l = record {
        own = refl;
        new = refl;
        passed = opened-passed d F footer body opened;
        shaped = opened-shape d F footer body opened;
        room = omega (arith, l, length-is, converted-length d F footer body opened);
      }
