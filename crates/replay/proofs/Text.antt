-- The text as it is measured and written, record by record: what is left of it from record i on.
-- Assumes nothing.
use mathlib.Core.Path.{◌≡◌, refl, ap, sym, ◌∙◌}
use mathlib.Core.Bool.{true, false}
use mathlib.Core.List.{[], ◌∷◌, ◌++◌}
use Prim.Native.Nat.{ℕ, ◌+◌, ◌-◌, ◌≤◌, ◌<◌}
use native.Mathlib.Decide.{dec_le}
use native.Mathlib.Omega.{arith}
use lib.Dec.{leb}
use lib.ListN.{length, take, drop, length-append}
use borrow.Author.Tests.{le-leb, lt-leb}
use Rattle.answers.specs.Runs.{join}
use Rattle.answers.proofs.Runs.{over-start, over-left, over_done}
use Rattle.description.specs.declared.Description.{Description}
use Rattle.text.specs.Text.{Bytes, newline, lines}
use Rattle.text.specs.Cursor.{end_from}
use Rattle.text.specs.Code.Places.{AtLine, Wrote}
use Rattle.text.proofs.Lines.{line-at, more-lines}
use Rattle.text.proofs.Writing.{wrote-append, wrote-size, wrote_nothing}
use Rattle.std.specs.Prelude.{Option}
use Rattle.replay.specs.declared.Compared.{Compared}
use Rattle.replay.specs.Replay.{record_text, record_line, replay_text, replay_text_by}
use Rattle.replay.specs.Code.Writing.{outcome_text, outcome_line}

leb-less : (a b c : ℕ) → a ≤ c → leb (a + b) c ≡ leb b (c - a)
leb-less a b c h = go (dec_le b (c - a))
  where
    go : Dec (b ≤ c - a) → leb (a + b) c ≡ leb b (c - a)
    go (yes l) = le-leb (a + b) c (omega arith) ∙ sym (le-leb b (c - a) l)
    go (no l) = lt-leb (a + b) c (omega arith) ∙ sym (lt-leb b (c - a) (omega arith))

module _ (d : Description) (n : ℕ) (body log : Bytes) where
  -- the lines of the records from i on
  abbrev pub text_from : ℕ → Bytes
  text_from i = join (record_line d n body log) i (length (lines log) - i)

  all_left : replay_text d n body log ≡ text_from 0
  unfolding replay_text_by
  all_left = over-start ◌++◌ [] (record_line d n body log) (length (lines log))

  none_left : (i : ℕ) → length (lines log) ≤ i → text_from i ≡ []
  none_left i e = over_done ◌++◌ [] (record_line d n body log) i (length (lines log) - i) (omega arith)

  -- the record at hand, as it is read, makes up line i of the text
  module _ {i at e : ℕ} (here : AtLine log i at) (more : at < length log) (end : e ≡ end_from newline log at) (r : Option Compared)
      (same : (i : ℕ) → outcome_text i r ≡ record_text d n body i (take (e - at) (drop at log))) where
    this-record : outcome_line i r ≡ record_line d n body log i
    this-record = ap (λ (t : Bytes). t ++ newline ∷ []) (same i) ∙ rw (line-at log i here end)

    one_left : text_from i ≡ outcome_line i r ++ text_from (i + 1)
    one_left = over-left ◌++◌ [] (record_line d n body log) i (length (lines log)) (more-lines here more) ∙ rw (← this-record)

    one-length : length (text_from i) ≡ length (outcome_line i r) + length (text_from (i + 1))
    one-length = ap length one_left ∙ length-append (outcome_line i r) (text_from (i + 1))

  -- ---- measured: what is left of the text is held to what is left of the room
  pub record Measures (room left i : ℕ) : Type 0 where
    pub held : leb (length (replay_text d n body log)) room ≡ leb (length (text_from i)) left

  pub measure-start : (room : ℕ) → Measures room room 0
  measure-start room = record { held = rw all_left }

  module _ {i at e : ℕ} (here : AtLine log i at) (more : at < length log) (end : e ≡ end_from newline log at) (r : Option Compared)
      (same : (i : ℕ) → outcome_text i r ≡ record_text d n body i (take (e - at) (drop at log)))
      {room left count : ℕ} (m : Measures room left i) (many : count ≡ length (outcome_line i r)) where
    pub measure-stop : left < count → false ≡ leb (length (replay_text d n body log)) room
    measure-stop h = sym (m.held ∙ lt-leb (length (text_from i)) left (omega (arith, one-length here more end r same)))

    pub measure-on : count ≤ left → Measures room (left - count) (i + 1)
    measure-on h = record {
      held = m.held ∙ rw (one-length here more end r same, many) (leb-less (length (outcome_line i r)) (length (text_from (i + 1))) left (omega (arith, many)));
    }

  pub measure-end : {room left i : ℕ} → Measures room left i → length (lines log) ≤ i → true ≡ leb (length (replay_text d n body log)) room
  measure-end {room} {left} {i} m e = sym (m.held ∙ rw (none_left i e) (le-leb 0 left (omega arith)))

  -- ---- written: whoever writes what is left, from here on, has written all of it
  pub record Writes (first out : Bytes) (next i : ℕ) : Type 0 where
    pub size : length out ≡ length first
    pub place : next + length (text_from i) ≡ length (replay_text d n body log)
    pub rest : {after : Bytes} {end : ℕ} → Wrote 0 out next (text_from i) after end → Wrote 0 first 0 (replay_text d n body log) after end

  pub write-start : (out : Bytes) → Writes out out 0 0
  write-start out = record { size = refl; place = rw all_left (omega arith); rest = λ w. rw all_left w }

  module _ {i at e : ℕ} (here : AtLine log i at) (more : at < length log) (end : e ≡ end_from newline log at) (r : Option Compared)
      (same : (i : ℕ) → outcome_text i r ≡ record_text d n body i (take (e - at) (drop at log)))
      {first out : Bytes} {next : ℕ} (w : Writes first out next i) where
    pub write-room : length (replay_text d n body log) ≤ length first → next + length (outcome_line i r) ≤ length out
    write-room h = omega (arith, w.size, w.place, one-length here more end r same)

    pub write-on : {after : Bytes} {last : ℕ} → Wrote 0 out next (outcome_line i r) after last → Writes first after last (i + 1)
    write-on o = record {
      size = wrote-size o ∙ w.size;
      place = omega (arith, o.place, w.place, one-length here more end r same);
      rest = λ v. w.rest (rw (one_left here more end r same) (wrote-append o v));
    }

  pub write-end : {first out : Bytes} {next i : ℕ} → Writes first out next i → length (lines log) ≤ i
      → Wrote 0 first 0 (replay_text d n body log) out next
  write-end {first} {out} {next} {i} w h = w.rest (rw (none_left i h) (wrote_nothing 0 out next))
