-- What does the writer answer by other rules, and its length? They are asked in the checks of the description and of n
-- alone. So by rules that agree on these each answer and the buffer are the same, refusals too (`SameWriting`); without
-- a float32 dimension all is as just before float32 was retired (`unmoved`).
-- Assumes nothing.
use mathlib.Core.Path.{◌≡◌}
use mathlib.Core.List.{List}
use Prim.Native.Nat.{ℕ}
use lib.ListN.{length}
use Rattle.description.specs.declared.Description.{Description}
use Rattle.description.specs.Rules.{Rules, before}
use Rattle.description.proofs.Rules.{Agree, Unretired, unretired}
use Rattle.written.specs.Writing.{sizes_refusal_by, length_answer, length_answer_by, write_refusal_by, write_answer, write_answer_by, write_buffer, write_buffer_by}

module _ {a b : Rules} (d : Description) (n f : ℕ) (same : Agree a b d n) where
  same-sizes : sizes_refusal_by a d n f ≡ sizes_refusal_by b d n f
  unfolding sizes_refusal_by
  same-sizes = rw (same.further, same.number.tiles)

  pub same_length : length_answer_by a d n f ≡ length_answer_by b d n f
  unfolding length_answer_by
  same_length = rw same-sizes

  module _ (leaves : List ℕ) where
    same-refusal : (room : ℕ) → write_refusal_by a d n f leaves room ≡ write_refusal_by b d n f leaves room
    unfolding write_refusal_by
    same-refusal room = rw same-sizes

    pub same_answer : (room : ℕ) → write_answer_by a d n f leaves room ≡ write_answer_by b d n f leaves room
    unfolding write_answer_by
    same_answer room = rw (same-refusal room)

    pub same-buffer : (out : List ℕ) → write_buffer_by a d n f leaves out ≡ write_buffer_by b d n f leaves out
    unfolding write_buffer_by
    same-buffer out = rw (same-refusal (length out))

pub record SameWriting (others : Rules) (d : Description) (n f : ℕ) (leaves : List ℕ) : Type 0 where
  pub length-told : length_answer d n f ≡ length_answer_by others d n f
  pub answer : (room : ℕ) → write_answer d n f leaves room ≡ write_answer_by others d n f leaves room
  pub buffer : (out : List ℕ) → write_buffer d n f leaves out ≡ write_buffer_by others d n f leaves out

-- Without a float32 dimension the writer answers, and leaves the buffer, as just before float32 was retired.
pub unmoved : (d : Description) (n f : ℕ) (leaves : List ℕ) → Unretired d → SameWriting before d n f leaves
unmoved d n f leaves u =
    let same = unretired d n u in
    record {
      length-told = same_length d n f same;
      answer = same_answer d n f same leaves;
      buffer = same-buffer d n f same leaves;
    }
