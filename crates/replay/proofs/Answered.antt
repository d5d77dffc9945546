-- What `replay` answers and leaves, where the buffer is too short and where it isn't.
-- Assumes nothing.
use mathlib.Core.Path.{◌≡◌, refl, sym, ◌∙◌}
use mathlib.Core.Bool.{true, false}
use mathlib.Core.List.{List, ◌++◌}
use Prim.Native.Nat.{ℕ, ◌*◌, ◌^◌, ◌≤◌, ◌<◌}
use native.Mathlib.Nat.{zero-add}
use native.Mathlib.Omega.{arith}
use lib.Dec.{leb}
use lib.ListN.{length, take, drop}
use lib.Seq.{sets-eq, take-append_seam}
use borrow.Author.Tests.{lt-ltb, le-ltb, leb-true, leb-false}
use Rattle.std.specs.Prelude.{Ok, Err}
use Rattle.answers.specs.declared.Reason.{Reason}
use Rattle.answers.specs.Told.{number_of, refused as refusing}
use Rattle.description.specs.declared.Description.{Description}
use Rattle.text.specs.Text.{Bytes, lines}
use Rattle.text.specs.Code.Places.{Wrote}
use Rattle.text.proofs.Writing.{seen-sets}
use Rattle.replay.specs.declared.Replayed.{Replayed}
use Rattle.replay.specs.Replay.{replay_text, replay_answer, replay_answer_by, replay_buffer, replay_buffer_by, most_line, OneEach, told_replay}
use Rattle.replay.proofs.Room.{room-enough}
use Rattle.replay.proofs.Fields.{one_each}

-- the clauses of `replay`, in their order
abbrev pub Promised : Description → ℕ → Bytes → Bytes → List ℕ → List ℕ → Replayed → Type 0
Promised d n body log before after r =
    (r ≡ replay_answer d n body log (length before))
    × ((after ≡ replay_buffer d n body log before)
    × ((most_line * length (lines log) ≤ length before → r.number ≡ 0)
    × (r.number ≡ 0 → OneEach d n body log (take r.length after))))

module _ (d : Description) (n : ℕ) (body log : Bytes) (before : List ℕ) where
  pub refused : length body < 2 ^ 64 → length log < 2 ^ 64 → leb (length (replay_text d n body log)) (length before) ≡ false
      → Promised d n body log before before (told_replay (Err (refusing Reason.Room 0)))
  unfolding replay_answer_by replay_buffer_by told_replay number_of
  refused small short e =
      let l = leb-false (length (replay_text d n body log)) (length before) e in
      let t = lt-ltb (length before) (length (replay_text d n body log)) l in
      (rw t, (rw t, ((λ h. absurd (omega (arith, room-enough d n body log small short))), (λ h. absurd (omega arith)))))

  pub accepted : leb (length (replay_text d n body log)) (length before) ≡ true → {after : List ℕ} {size : ℕ}
      → Wrote 0 before 0 (replay_text d n body log) after size → Promised d n body log before after (told_replay (Ok size))
  unfolding replay_answer_by replay_buffer_by told_replay
  accepted e {after} {size} w =
      let l = leb-true (length (replay_text d n body log)) (length before) e in
      let t = le-ltb (length before) (length (replay_text d n body log)) l in
      let z : size ≡ length (replay_text d n body log) = omega (arith, w.place) in
      let is : after ≡ replay_text d n body log ++ drop (length (replay_text d n body log)) before =
      w.there ∙ sym (seen-sets 0 before 0 (replay_text d n body log) (omega arith)) ∙ sets-eq (replay_text d n body log) before 0 (omega arith) ∙ rw zero-add in
      (rw (t, z), (rw t is, ((λ h. refl), (λ h. rw (z, is, take-append_seam) (one_each d n body log)))))
