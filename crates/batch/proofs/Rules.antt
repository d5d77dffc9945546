-- What does a batch answer by other rules? Each window is a query, so by rules that agree on the description and on n
-- every answer and the buffer are the same, refusals too (`SameBatch`); whether the runs are of one length, 22, is
-- asked of no rule. Without a float32 dimension all is as just before float32 was retired (`unmoved`).
-- Assumes nothing.
use mathlib.Core.Path.{◌≡◌, refl}
use mathlib.Core.List.{List, [], ◌∷◌}
use Prim.Native.Nat.{ℕ}
use Rattle.description.specs.declared.Description.{Description}
use Rattle.description.specs.Rules.{Rules, before}
use Rattle.description.proofs.Rules.{Agree, Unretired, unretired}
use Rattle.boxes.specs.declared.Window.{Window}
use Rattle.query.proofs.Rules as queries
use Rattle.batch.specs.Batch.{batch_answers, batch_answers_by, batch_buffer, batch_buffer_by}

module _ {a b : Rules} (d : Description) (n : ℕ) (body : List ℕ) (same : Agree a b d n) where
  pub same-answers : (ws : List Window) → batch_answers_by a d n body ws ≡ batch_answers_by b d n body ws
  unfolding batch_answers_by
  same-answers [] = refl
  same-answers (w ∷ ws) = rw (queries.same_answer d n body w same, same-answers ws)

  pub same-buffer : (ws : List Window) (out : List ℕ) → batch_buffer_by a d n body ws out ≡ batch_buffer_by b d n body ws out
  unfolding batch_buffer_by
  same-buffer [] out = refl
  same-buffer (w ∷ ws) out = rw (queries.same_answer d n body w same, queries.same-buffer d n body w same out, same-buffer ws _)

pub record SameBatch (others : Rules) (d : Description) (n : ℕ) (body : List ℕ) (ws : List Window) : Type 0 where
  pub answers : batch_answers d n body ws ≡ batch_answers_by others d n body ws
  pub buffer : (out : List ℕ) → batch_buffer d n body ws out ≡ batch_buffer_by others d n body ws out

-- Without a float32 dimension a batch is answered, and leaves the buffer, as just before float32 was retired.
pub unmoved : (d : Description) (n : ℕ) (body : List ℕ) (ws : List Window) → Unretired d → SameBatch before d n body ws
unmoved d n body ws u =
    let same = unretired d n u in
    record { answers = same-answers d n body same ws; buffer = same-buffer d n body same ws }
