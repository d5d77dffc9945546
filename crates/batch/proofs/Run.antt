-- A batch as the code runs it, window after window, comes to what the definition says. After i windows the buffer holds what those i found, and as many
-- places are used as that is, or all (`used-at`, `buffer-at`).
-- Assumes nothing.
use mathlib.Core.Path.{◌≡◌, refl, ap, sym, ◌∙◌}
use mathlib.Core.Bool.{Bool, true, false, cond}
use mathlib.Core.List.{List, [], ◌∷◌, ◌++◌, append_assoc, append-nil}
use Prim.Native.Nat.{ℕ, zero, suc, ◌<◌, ◌≤◌, min}
use native.Mathlib.Omega.{arith}
use lib.Dec.{eqb}
use lib.ListN.{length, get_or, take, drop, length-append}
use lib.Seq.{length-take-le, take-suc, take-length, drop-length, drop-cons, set_at}
use borrow.Author.Tests.{eq-eqb, eqb-true}
use Rattle.answers.specs.Refusals.{runs}
use Rattle.answers.specs.Laid.{laid}
use Rattle.description.specs.declared.Description.{Description}
use Rattle.boxes.specs.declared.Window.{Window}
use Rattle.query.specs.declared.Answer.{Answer}
use Rattle.query.specs.Query.{query_answer}
use Rattle.batch.specs.Batch.{batch_of, no_window, no_answer, asked_from, asked_buffer, batch_answers, batch_answers_by, batch_buffer, found_by, found_by_all, found_before, Answered, Batched}
use Rattle.batch.specs.Code.Run.{used_at, buffer_at, answers_at}
use Rattle.batch.specs.declared.Batch.{Batch}
use Rattle.batch.proofs.Laying.{laid_nil, laid-append, laid-front, laid-rest}
use Rattle.batch.proofs.Windows.{found-tiles, tiles-laid, batch-laid, found-more, each-promised}

-- the answer to a batch, by whether the runs are of one length
abbrev made : ℕ → Bool → Batch
made windows t = cond t (record { number = 0; place = 0; windows = windows }) (record { number = runs; place = 0; windows = 0 })

-- a window that is asked is one of the run, and has an answer
pub in-run : (windows answers i : ℕ) → i < (batch_of windows answers).windows → (i < windows) × (i < answers)
unfolding batch_of
in-run windows answers i = go (eqb windows answers) refl
  where
    go : (t : Bool) → eqb windows answers ≡ t → i < (made windows t).windows → (i < windows) × (i < answers)
    go true e l = (l, rw (eqb-true windows answers e) at l)
    go false e l = absurd (omega arith)

pub asked-answer : (d : Description) (n : ℕ) (body : List ℕ) (w : Window) (room used : ℕ) → (asked_from d n body w room used).answer ≡ query_answer d n body w
unfolding asked_from
asked-answer d n body w room used = refl

module _ (d : Description) (n : ℕ) (body : List ℕ) (ws : List Window) where
  pub used-at : (room i : ℕ) → i ≤ length ws → used_at d n body ws room i ≡ min (found_before d n body ws i) room
  unfolding found_by_all asked_from
  used-at room zero h = omega arith
  used-at room (suc i) h =
      rw (used-at room i (omega arith), found-more d n body ws i h, length-append (found_by_all d n body (take i ws)) (found_by d n body (get_or ws i no_window)), found-tiles d n body (get_or ws i no_window))
      (omega arith)

  pub buffer-at : (out : List ℕ) (i : ℕ) → i ≤ length ws → buffer_at d n body ws out i ≡ laid (found_by_all d n body (take i ws)) out
  unfolding found_by_all asked_buffer
  buffer-at out zero h = sym (laid_nil out)
  buffer-at out (suc i) h =
      let found = found_by_all d n body (take i ws) in
      let w = get_or ws i no_window in
      rw (used-at (length out) i (omega arith), buffer-at out i (omega arith), laid-front found out, laid-rest found out, tiles-laid d n body w (drop (length found) out), found-more d n body ws i h)
      (sym (laid-append found (found_by d n body w) out))

  pub buffer-all : (out : List ℕ) → buffer_at d n body ws out (length ws) ≡ batch_buffer d n body ws out
  buffer-all out = buffer-at out (length ws) (omega arith) ∙ rw take-length (sym (batch-laid d n body ws out))

  answers-length : (us : List Window) → length (batch_answers d n body us) ≡ length us
  unfolding batch_answers_by
  answers-length [] = refl
  answers-length (u ∷ us) = ap suc (answers-length us)

  answers-append : (us vs : List Window) → batch_answers d n body (us ++ vs) ≡ batch_answers d n body us ++ batch_answers d n body vs
  unfolding batch_answers_by
  answers-append [] vs = refl
  answers-append (u ∷ us) vs = rw (answers-append us vs)

  pub answers_at_lem : (rs : List Answer) → length rs ≡ length ws → (i : ℕ) → i ≤ length ws
      → answers_at d n body ws rs i ≡ batch_answers d n body (take i ws) ++ drop i rs
  unfolding batch_answers_by
  answers_at_lem rs e zero h = refl
  answers_at_lem rs e (suc i) h =
      let w = get_or ws i no_window in
      let there : i < length rs = omega arith in
      let front = batch_answers d n body (take i ws) in
      rw (answers_at_lem rs e i (omega arith), drop-cons rs i no_answer there, take-suc ws i no_window h, answers-append (take i ws) (w ∷ []), append_assoc)
      (set_at front (get_or rs i no_answer) (drop (suc i) rs) (query_answer d n body w) i (answers-length (take i ws) ∙ length-take-le i ws (omega arith)))

  pub answers-all : (rs : List Answer) → length rs ≡ length ws → answers_at d n body ws rs (length ws) ≡ batch_answers d n body ws
  answers-all rs e =
      let none : drop (length ws) rs ≡ [] = rw (← e, drop-length) in
      answers_at_lem rs e (length ws) (omega arith) ∙ rw (take-length, none, append-nil)

  -- all that is promised of a batch, of what stands once the windows that are to be asked have been asked
  pub batched : {r : Batch} (rs : List Answer) (out : List ℕ) → r ≡ batch_of (length ws) (length rs)
      → Batched d n body ws r rs (answers_at d n body ws rs r.windows) out (buffer_at d n body ws out r.windows)
  unfolding batch_of
  batched rs out e = rw e (go (eqb (length ws) (length rs)) refl)
    where
      go : (t : Bool) → eqb (length ws) (length rs) ≡ t
          → Batched d n body ws (made (length ws) t) rs (answers_at d n body ws rs (made (length ws) t).windows) out (buffer_at d n body ws out (made (length ws) t).windows)
      go true h =
          let same : length rs ≡ length ws = sym (eqb-true (length ws) (length rs) h) in
          record {
            batch = rw h;
            answers = rw h (answers-all rs same);
            buffer = rw h (buffer-all out);
            promises = λ _. rw (answers-all rs same, buffer-all out) (each-promised d n body ws out);
          }
      go false h = record {
        batch = rw h;
        answers = rw h;
        buffer = rw h;
        promises = λ z. absurd (omega arith);
      }

  pub answered-all : {r : Batch} {rs zs : List Answer} {out left : List ℕ} → length rs ≡ length ws → Batched d n body ws r rs zs out left
      → Answered d n body ws zs out left
  unfolding batch_of
  answered-all {r} {rs} same b =
      let even = eq-eqb (length ws) (length rs) (sym same) in
      record {
        answers = rw even at b.answers;
        buffer = rw even at b.buffer;
        promises = b.promises (ap (λ (z : Batch). z.number) b.batch ∙ rw even);
      }
