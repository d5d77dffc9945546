-- A batch as the code runs it: what stands after i windows. Nothing here is promised to a user of the library.
-- Assumes nothing.
use Rattle.std.specs.Prelude.{ℕ, zero, suc, List, length, get_or, set}
use Rattle.description.specs.declared.Description.{Description}
use Rattle.boxes.specs.declared.Window.{Window}
use Rattle.query.specs.declared.Answer.{Answer}
use Rattle.query.specs.Query.{query_answer}
use Rattle.batch.specs.Batch.{no_window, asked_from, asked_buffer}

module _ (d : Description) (n : ℕ) (body : List ℕ) (ws : List Window) where
  -- the places used, of so many
  abbrev pub used_at : ℕ → ℕ → ℕ
  used_at room zero = 0
  used_at room (suc i) = (asked_from d n body (get_or ws i no_window) room (used_at room i)).used

  -- the buffer
  abbrev pub buffer_at : List ℕ → ℕ → List ℕ
  buffer_at out zero = out
  buffer_at out (suc i) = asked_buffer d n body (get_or ws i no_window) (buffer_at out i) (used_at (length out) i)

  -- the run of answers
  abbrev pub answers_at : List Answer → ℕ → List Answer
  answers_at rs zero = rs
  answers_at rs (suc i) = set (answers_at rs i) i (query_answer d n body (get_or ws i no_window))
