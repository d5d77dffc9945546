-- What does a replay write by other rules? A line asks them in its query alone, so by rules that agree on the
-- description and on n the text, the answer and the buffer are the same (`SameReplay`); without a float32 dimension all
-- is as just before float32 was retired (`unmoved`). Under a description that is refused every line is `bad`
-- (`all-bad`).
-- Assumes nothing.
use mathlib.Core.Path.{◌≡◌}
use mathlib.Core.Bool.{false}
use mathlib.Core.List.{[], ◌++◌}
use Prim.Native.Nat.{ℕ}
use lib.ListN.{length}
use borrow.Author.Tests.{ne_eqb}
use Rattle.answers.proofs.Runs.{over-ext}
use Rattle.description.specs.declared.Description.{Description}
use Rattle.description.specs.Description.{description_refusal}
use Rattle.description.specs.Rules.{Rules, before}
use Rattle.description.proofs.Rules.{Agree, Unretired, unretired}
use Rattle.description.proofs.Tests.{and-false}
use Rattle.query.proofs.Rules.{same_answer, described-first}
use Rattle.text.specs.Text.{Bytes, lines, line_at}
use Rattle.replay.specs.Records.{is_readable, logged_window}
use Rattle.replay.specs.Replay.{bad_text, is_good, is_good_by, record_text, record_text_by, record_line_by, replay_text_by, replay_answer, replay_answer_by, replay_buffer, replay_buffer_by}

module _ {a b : Rules} (d : Description) (n : ℕ) (body : Bytes) (same : Agree a b d n) where
  same-record : (i : ℕ) (line : Bytes) → record_text_by a d n body i line ≡ record_text_by b d n body i line
  unfolding record_text_by is_good_by
  same-record i line = rw (same_answer d n body (logged_window d line) same)

  pub same_text : (log : Bytes) → replay_text_by a d n body log ≡ replay_text_by b d n body log
  unfolding replay_text_by
  same_text log =
      over-ext ◌++◌ [] (record_line_by a d n body log) (record_line_by b d n body log) 0 (length (lines log))
      (λ i low high. rw (same-record i (line_at i log)))

pub record SameReplay (others : Rules) (d : Description) (n : ℕ) (body log : Bytes) : Type 0 where
  pub answer : (size : ℕ) → replay_answer d n body log size ≡ replay_answer_by others d n body log size
  pub buffer : (out : Bytes) → replay_buffer d n body log out ≡ replay_buffer_by others d n body log out

-- Without a float32 dimension a replay answers, and leaves the buffer, as just before float32 was retired.
pub unmoved : (d : Description) (n : ℕ) (body log : Bytes) → Unretired d → SameReplay before d n body log
unfolding replay_answer_by replay_buffer_by
unmoved d n body log u =
    let same = same_text d n body (unretired d n u) log in
    record { answer = λ size. rw same; buffer = λ out. rw same }

-- 1 and 28 make every line bad.
module _ (d : Description) (n : ℕ) (body : Bytes) (bad : (description_refusal d).number ≡ 0 → ⊥) where
  never-good : (line : Bytes) → is_good d n body line ≡ false
  unfolding is_good_by
  never-good line =
      rw (described-first d n body (logged_window d line) bad, ne_eqb (description_refusal d).number 0 bad)
      (and-false (is_readable d line))

  pub all-bad : (i : ℕ) (line : Bytes) → record_text d n body i line ≡ bad_text i
  unfolding record_text_by
  all-bad i line = rw (never-good line)
