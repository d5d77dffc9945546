-- A batch as C lends it: one run of kind numbers for all windows, the windows' bytes one after the other, and five numbers
-- for the answer to each.
-- Assumes nothing.
use Rattle.std.specs.Prelude.{ℕ, ◌-◌, ◌*◌, ◌/◌, ◌≡◌, Bool, ◌&&◌, cond, List, [], ◌∷◌, ◌++◌, eqb, length, get_or, take, drop}
use Rattle.answers.specs.Refusals.{runs}
use Rattle.answers.specs.Runs.{join}
use Rattle.description.specs.declared.Description.{Description}
use Rattle.description.specs.Description.{bytes_of_box}
use Rattle.boxes.specs.declared.Window.{Window}
use Rattle.query.specs.Query.{query_answer}
use Rattle.c_arguments.specs.Described.{numbered_dimensions}
use Rattle.c_arguments.specs.Windows.{window_of_bytes}
use Rattle.batch.specs.declared.Batch.{Batch}
use Rattle.batch.specs.Batch.{no_window, used_by, found_before, batch_answers, batch_buffer, EachPromises}

-- the bytes of each window: those of its ranges. A number that is no kind counts as int32's
abbrev pub window_bytes : List ℕ → ℕ
window_bytes numbers =
    bytes_of_box (record { dimensions = length numbers; kinds = numbered_dimensions numbers; fields = 1; capacity = 1 })

-- so many numbers have a place for the answer to each of so many windows, and so many bytes are as many windows
abbrev pub is_whole : ℕ → ℕ → ℕ → Bool
is_whole width bytes places = eqb places (5 * (places / 5)) && eqb bytes (places / 5 * width)

-- 22 where the run of answers isn't exactly as long as the run of windows
unfoldable pub lent_batch : ℕ → ℕ → ℕ → Batch
lent_batch width bytes places =
    cond (is_whole width bytes places)
    (record { number = 0; place = 0; windows = places / 5 })
    (record { number = runs; place = 0; windows = 0 })

module _ (d : Description) (numbers bytes : List ℕ) where
  -- window i: its own bytes, read as those of a single window are
  abbrev pub window_at : ℕ → Window
  window_at i = window_of_bytes d numbers (take (window_bytes numbers) (drop (i * window_bytes numbers) bytes))

  -- the windows that are asked: all that are lent, and none where the batch is refused
  unfoldable pub windows_of : ℕ → List Window
  windows_of count = join (λ i. window_at i ∷ []) 0 count

  abbrev pub windows_asked : ℕ → List Window
  windows_asked places = windows_of (lent_batch (window_bytes numbers) (length bytes) places).windows

-- what the whole batch answers
abbrev pub batch_places : Batch → List ℕ
batch_places r = r.number ∷ r.place ∷ r.windows ∷ []

module _ (d : Description) (n : ℕ) (body : List ℕ) (ws : List Window) (room : ℕ) where
  -- the answer to window i, and the places of the result buffer that it used
  unfoldable pub record_at : ℕ → List ℕ
  record_at i =
      let w = get_or ws i no_window in
      let a = query_answer d n body w in
      a.number ∷ a.place ∷ a.found ∷ a.looked ∷ used_by d n body w (room - found_before d n body ws i) ∷ []

  abbrev pub record_places : List ℕ
  record_places = join record_at 0 (length ws)

-- All that is promised of a batch that is lent:
module _ (d : Description) (n : ℕ) (body numbers bytes told lent : List ℕ) where
  abbrev asked : List Window
  asked = windows_asked d numbers bytes (length lent)

  pub record LentAnswered (answered before after : List ℕ) : Type 0 where
    -- as a whole it answers 22, or how many windows were asked
    pub batch : told ≡ batch_places (lent_batch (window_bytes numbers) (length bytes) (length lent))
    -- the answer run has the records of the windows, one after the other, and its other numbers stay
    pub answers : answered ≡ record_places d n body asked (length before) ++ drop (5 * length asked) lent
    -- each window is asked with what the earlier ones left of the buffer
    pub buffer : after ≡ batch_buffer d n body asked before
    -- the demands hold per window
    pub promises : EachPromises d n body asked (batch_answers d n body asked) before after
