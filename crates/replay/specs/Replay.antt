-- What does a replay write, and what does it answer?
-- Assumes nothing.
use Rattle.std.specs.Prelude.{ℕ, ◌<◌, ◌≡◌, Result, Ok, Err, Bool, cond, ◌&&◌, List, [], ◌∷◌, ◌++◌, ltb, eqb, length, drop, unwrap_or}
use Rattle.answers.specs.declared.Refused.{Refused}
use Rattle.answers.specs.Refusals.{room}
use Rattle.answers.specs.Runs.{join}
use Rattle.answers.specs.Told.{said}
use Rattle.description.specs.declared.Description.{Description}
use Rattle.description.specs.Rules.{Rules, current}
use Rattle.decimal.specs.Decimal.{decimal}
use Rattle.query.specs.declared.Answer.{Answer}
use Rattle.query.specs.Query.{query_answer_by}
use Rattle.text.specs.Text.{Bytes, tab, newline, lines, line_at, joined}
use Rattle.replay.specs.declared.Replayed.{Replayed}
use Rattle.replay.specs.Records.{is_readable, logged_window, logged_found, logged_looked}

-- what code tells: how long the text is, or what the error says
unfoldable pub told_replay : Result ℕ Refused → Replayed
told_replay (Ok length) = record { number = 0; place = 0; length = length }
told_replay (Err e) = record { number = (said e).number; place = (said e).place; length = 0 }

-- `same`, `differs`, `bad`
abbrev pub same_word : Bytes
same_word = 115 ∷ 97 ∷ 109 ∷ 101 ∷ []

abbrev pub differs_word : Bytes
differs_word = 100 ∷ 105 ∷ 102 ∷ 102 ∷ 101 ∷ 114 ∷ 115 ∷ []

abbrev pub bad_word : Bytes
bad_word = 98 ∷ 97 ∷ 100 ∷ []

-- "its number from 0, `same` (exactly if both numbers agree) or `differs`, the logged pair, the pair found now"
abbrev pub compared_text : ℕ → ℕ → ℕ → ℕ → ℕ → Bytes
compared_text i found looked found_now_lem looked_now_lem = joined tab (
    decimal i
    ∷ cond (eqb found found_now_lem && eqb looked looked_now_lem) same_word differs_word
    ∷ decimal found
    ∷ decimal looked
    ∷ decimal found_now_lem
    ∷ decimal looked_now_lem
    ∷ []
    )

-- "its number and `bad`"
abbrev pub bad_text : ℕ → Bytes
bad_text i = joined tab (decimal i ∷ bad_word ∷ [])

module _ (rules : Rules) (d : Description) (n : ℕ) (body : Bytes) where
  -- what the logged window's query answers now
  abbrev pub answer_now_by : Bytes → Answer
  answer_now_by line = query_answer_by rules d n body (logged_window d line)

  -- read, and its query isn't refused
  unfoldable pub is_good_by : Bytes → Bool
  is_good_by line = is_readable d line && eqb (answer_now_by line).number 0

  unfoldable pub record_text_by : ℕ → Bytes → Bytes
  record_text_by i line =
      let now = answer_now_by line in
      cond (is_good_by line)
      (compared_text i (unwrap_or (logged_found d line) 0) (unwrap_or (logged_looked d line) 0) now.found now.looked)
      (bad_text i)

  -- "one tab-parted line per record, ended by one newline"
  abbrev pub record_line_by : Bytes → ℕ → Bytes
  record_line_by log i = record_text_by i (line_at i log) ++ newline ∷ []

  unfoldable pub replay_text_by : Bytes → Bytes
  replay_text_by log = join (record_line_by log) 0 (length (lines log))

  -- 26 at place 0 exactly if the output buffer is shorter than the text; success tells the length
  unfoldable pub replay_answer_by : Bytes → ℕ → Replayed
  replay_answer_by log size =
      cond (ltb size (length (replay_text_by log)))
      (record { number = room; place = 0; length = 0 })
      (record { number = 0; place = 0; length = length (replay_text_by log) })

  -- a refusal writes nothing; bytes past the text stay
  unfoldable pub replay_buffer_by : Bytes → List ℕ → List ℕ
  replay_buffer_by log out =
      let text = replay_text_by log in
      cond (ltb (length out) (length text)) out (text ++ drop (length text) out)

-- by the rules of this library
module _ (d : Description) (n : ℕ) (body : Bytes) where
  abbrev pub answer_now : Bytes → Answer
  answer_now = answer_now_by current d n body

  abbrev pub is_good : Bytes → Bool
  is_good = is_good_by current d n body

  abbrev pub record_text : ℕ → Bytes → Bytes
  record_text = record_text_by current d n body

  abbrev pub record_line : Bytes → ℕ → Bytes
  record_line = record_line_by current d n body

  abbrev pub replay_text : Bytes → Bytes
  replay_text = replay_text_by current d n body

  abbrev pub replay_answer : Bytes → ℕ → Replayed
  replay_answer = replay_answer_by current d n body

  abbrev pub replay_buffer : Bytes → List ℕ → List ℕ
  replay_buffer = replay_buffer_by current d n body

-- "Every record has exactly one output line, in order", in what was written
pub record OneEach (d : Description) (n : ℕ) (body log written : Bytes) : Type 0 where
  pub many : length (lines written) ≡ length (lines log)
  pub line : (i : ℕ) → i < length (lines log) → line_at i written ≡ record_text d n body i (line_at i log)

-- the longest that a record's line can be: five numbers of 20 digits, `differs`, five tabs and a newline
abbrev pub most_line : ℕ
most_line = 113
