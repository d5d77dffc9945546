-- What does a query answer by other rules, and a box test? They ask the rules of the description, first, and a query
-- asks them of n. So by rules that agree on these the answer and the buffer are the same, refusals too (`SameQuery`):
-- without a float32 dimension as just before float32 was retired (`unmoved`), and for at most 65,536 tiles as with the
-- earlier limit (`as_before`). What is said of a description is said before all else, whatever n and body are
-- (`described-first`).
-- Assumes nothing.
use mathlib.Core.Path.{◌≡◌}
use mathlib.Core.List.{List}
use Prim.Native.Nat.{ℕ, ◌≤◌}
use borrow.Author.Tests.{ne_eqb}
use Rattle.answers.proofs.Checks.{halt, stop}
use Rattle.description.specs.declared.Description.{Description}
use Rattle.description.specs.Description.{description_refusal}
use Rattle.description.specs.Rules.{Rules, current, before, earlier}
use Rattle.description.proofs.Rules.{Agree, Unretired, unretired, few}
use Rattle.boxes.specs.declared.Window.{Window}
use Rattle.query.specs.Query.{asked_refusal, asked_refusal_by, query_refusal, query_refusal_by, refused_answer, query_answer, query_answer_by, query_buffer, query_buffer_by}
use Rattle.query.specs.BoxTest.{box_test_refusal_by, box_test_answer, box_test_answer_by}

module _ {a b : Rules} (d : Description) (n : ℕ) (body : List ℕ) (w : Window) (same : Agree a b d n) where
  same-refusal : query_refusal_by a d n body w ≡ query_refusal_by b d n body w
  unfolding query_refusal_by asked_refusal_by
  same-refusal = rw (same.further, same.number.tiles)

  pub same_answer : query_answer_by a d n body w ≡ query_answer_by b d n body w
  unfolding query_answer_by
  same_answer = rw same-refusal

  pub same-buffer : (out : List ℕ) → query_buffer_by a d n body w out ≡ query_buffer_by b d n body w out
  unfolding query_buffer_by
  same-buffer out = rw same-refusal

-- a box test asks nothing of n
module _ (a b : Rules) (d : Description) (bytes : List ℕ) (w : Window) where
  pub same-box-test : a.further d ≡ b.further d → box_test_answer_by a d bytes w ≡ box_test_answer_by b d bytes w
  unfolding box_test_answer_by box_test_refusal_by
  same-box-test same = rw same

-- the answer and the buffer, refusals too
pub record SameQuery (others : Rules) (d : Description) (n : ℕ) (body : List ℕ) (w : Window) : Type 0 where
  pub answer : query_answer d n body w ≡ query_answer_by others d n body w
  pub buffer : (out : List ℕ) → query_buffer d n body w out ≡ query_buffer_by others d n body w out

pub same-query : {others : Rules} (d : Description) (n : ℕ) (body : List ℕ) (w : Window) → Agree current others d n
    → SameQuery others d n body w
same-query d n body w same = record { answer = same_answer d n body w same; buffer = same-buffer d n body w same }

-- Without a float32 dimension a query is answered, and leaves the buffer, as just before float32 was retired,
pub unmoved : (d : Description) (n : ℕ) (body : List ℕ) (w : Window) → Unretired d → SameQuery before d n body w
unmoved d n body w u = same-query d n body w (unretired d n u)

-- and one with at most 65,536 tiles as with the earlier limit.
pub as_before : (d : Description) (n : ℕ) (body : List ℕ) (w : Window) → Unretired d → n ≤ earlier.tiles
    → SameQuery earlier d n body w
as_before d n body w u h = same-query d n body w (few d n u h)

pub box-test-unmoved : (d : Description) (bytes : List ℕ) (w : Window) → Unretired d
    → box_test_answer d bytes w ≡ box_test_answer_by before d bytes w
box-test-unmoved d bytes w u = same-box-test current before d bytes w u.silent

-- 1 and 28 come before the 10 and before every byte, so they are said of any n and body.
module _ (d : Description) (n : ℕ) (body : List ℕ) (w : Window) (bad : (description_refusal d).number ≡ 0 → ⊥) where
  asked-first : asked_refusal d n w ≡ description_refusal d
  unfolding asked_refusal_by
  asked-first = stop (description_refusal d) _ bad

  refused-first : query_refusal d n body w ≡ description_refusal d
  unfolding query_refusal_by
  refused-first = rw asked-first (halt (description_refusal d) _ bad)

  pub described-first : query_answer d n body w ≡ refused_answer (description_refusal d)
  unfolding query_answer_by
  described-first = rw (refused-first, ne_eqb (description_refusal d).number 0 bad)
