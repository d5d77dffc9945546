-- All windows of a batch in one call: a run of windows, a run of answers as long, and one result buffer.
-- Assumes nothing.
use Rattle.std.specs.Prelude.{ℕ, suc, ◌+◌, ◌-◌, ◌<◌, min, ◌≡◌, cond, List, [], ◌∷◌, ◌++◌, eqb, length, get_or, take, drop}
use Rattle.answers.specs.Refusals.{runs}
use Rattle.description.specs.declared.Description.{Description}
use Rattle.description.specs.Rules.{Rules, current}
use Rattle.boxes.specs.declared.Window.{Window}
use Rattle.query.specs.declared.Answer.{Answer}
use Rattle.query.specs.Query.{query_refusal, found_at, query_answer, query_answer_by, query_buffer, query_buffer_by, Promises}
use Rattle.batch.specs.declared.Asked.{Asked}
use Rattle.batch.specs.declared.Batch.{Batch}

-- 22, place 0, before every other check, where the answer run isn't exactly as long as the query run; else all windows
-- are answered
unfoldable pub batch_of : ℕ → ℕ → Batch
batch_of windows answers =
    cond (eqb windows answers)
    (record { number = 0; place = 0; windows = windows })
    (record { number = runs; place = 0; windows = 0 })

-- past the end of a run: what stands there is never asked for
abbrev pub no_window : Window
no_window = record { dimensions = 0; sides = [] }

abbrev pub no_answer : Answer
no_answer = record { number = 0; place = 0; found = 0; looked = 0 }

-- the places that a window uses of those that are left: as many as it finds tiles; a refused window finds none
abbrev pub places_used : Answer → ℕ → ℕ
places_used answer left = min answer.found left

module _ (rules : Rules) (d : Description) (n : ℕ) (body : List ℕ) where
  -- Each window answers as if asked alone
  unfoldable pub batch_answers_by : List Window → List Answer
  batch_answers_by [] = []
  batch_answers_by (w ∷ ws) = query_answer_by rules d n body w ∷ batch_answers_by ws

  -- with what the earlier ones left of the buffer.
  unfoldable pub batch_buffer_by : List Window → List ℕ → List ℕ
  batch_buffer_by [] out = out
  batch_buffer_by (w ∷ ws) out =
      let after = query_buffer_by rules d n body w out in
      let used = places_used (query_answer_by rules d n body w) (length out) in
      take used after ++ batch_buffer_by ws (drop used after)

-- by the rules of this library
module _ (d : Description) (n : ℕ) (body : List ℕ) where
  abbrev pub batch_answers : List Window → List Answer
  batch_answers = batch_answers_by current d n body

  abbrev pub batch_buffer : List Window → List ℕ → List ℕ
  batch_buffer = batch_buffer_by current d n body

  abbrev pub used_by : Window → ℕ → ℕ
  used_by w left = places_used (query_answer d n body w) left

  -- a window that is asked once `used` places of the buffer are used: its answer, and the places used after it
  unfoldable pub asked_from : Window → ℕ → ℕ → Asked
  asked_from w room used = record { answer = query_answer d n body w; used = used + used_by w (room - used) }

  -- the places used stay, and the window is asked with the others
  unfoldable pub asked_buffer : Window → List ℕ → ℕ → List ℕ
  asked_buffer w out used = take used out ++ query_buffer d n body w (drop used out)

  -- the tiles that a window finds; a refused one finds none
  unfoldable pub found_by : Window → List ℕ
  found_by w = cond (eqb (query_refusal d n body w).number 0) (found_at d n body w) []

  -- the found tiles of all windows that aren't refused, one after the other
  unfoldable pub found_by_all : List Window → List ℕ
  found_by_all [] = []
  found_by_all (w ∷ ws) = found_by w ++ found_by_all ws

  -- how many tiles the windows before window i found
  abbrev pub found_before : List Window → ℕ → ℕ
  found_before ws i = length (found_by_all (take i ws))

  -- Window i's part of the buffer: before, what the earlier windows left; after, its own places as the whole batch
  -- leaves them, and the others untouched.
  abbrev pub part_before : List Window → List ℕ → ℕ → List ℕ
  part_before ws before i = drop (found_before ws i) before

  abbrev pub part_after : List Window → List ℕ → List ℕ → ℕ → List ℕ
  part_after ws before after i =
      take (length (found_by (get_or ws i no_window))) (drop (found_before ws i) after)
      ++ drop (found_before ws (suc i)) before

  -- The demands hold per window: all that a query promises, of each window with its own part of the buffer.
  abbrev pub EachPromises : List Window → List Answer → List ℕ → List ℕ → Type 0
  EachPromises ws answers before after =
      (i : ℕ) → i < length ws
      → Promises d n body (get_or ws i no_window) (get_or answers i no_answer)
      (part_before ws before i) (part_after ws before after i)

-- what is promised where the answer run is as long as the query run
pub record Answered (d : Description) (n : ℕ) (body : List ℕ) (ws : List Window)
    (answered : List Answer) (before after : List ℕ) : Type 0 where
  pub answers : answered ≡ batch_answers d n body ws
  pub buffer : after ≡ batch_buffer d n body ws before
  pub promises : EachPromises d n body ws answered before after

-- All that is promised of a batch. Refused, it writes neither answers nor buffer.
pub record Batched (d : Description) (n : ℕ) (body : List ℕ) (ws : List Window) (r : Batch)
    (lent answered : List Answer) (before after : List ℕ) : Type 0 where
  pub batch : r ≡ batch_of (length ws) (length lent)
  pub answers : answered ≡ cond (eqb (length ws) (length lent)) (batch_answers d n body ws) lent
  pub buffer : after ≡ cond (eqb (length ws) (length lent)) (batch_buffer d n body ws before) before
  pub promises : r.number ≡ 0 → EachPromises d n body ws answered before after
