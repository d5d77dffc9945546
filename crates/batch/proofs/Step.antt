-- One window of a batch: the part of the buffer that the code lends is what is left of it, also where all of it is used, and what the query
-- leaves there goes back to its place.
-- Assumes nothing.
use mathlib.Core.Path.{◌≡◌, ap, sym, ◌∙◌}
use mathlib.Core.List.{List, [], ◌++◌, append-nil}
use Prim.Native.Nat.{ℕ, ◌+◌, ◌-◌, ◌≤◌, min}
use native.Mathlib.Decide.{dec_le}
use native.Mathlib.Omega.{arith}
use lib.ListN.{length, take, drop, length-drop, drop_of_length-le}
use lib.Seq.{take_all, drop-nil, drop_at, length-take-le}
use Rattle.answers.specs.Laid.{laid}
use Rattle.description.specs.declared.Description.{Description}
use Rattle.boxes.specs.declared.Window.{Window}
use Rattle.query.specs.declared.Answer.{Answer}
use Rattle.query.specs.Query.{query_answer, query_buffer, Promises}
use Rattle.query.proofs.Promised.{keeps}
use Rattle.batch.specs.Batch.{asked_from, asked_buffer, found_by}
use Rattle.batch.specs.declared.Asked.{Asked}
use Rattle.batch.proofs.Windows.{tiles-laid}

-- the part that is lent begins at the first place that isn't used, or at the end
module _ (out : List ℕ) (used : ℕ) {start : ℕ} (e : start ≡ min used (length out)) where
  starts : (take start out ≡ take used out) × (drop start out ≡ drop used out)
  starts = go (dec_le used (length out))
    where
      go : Dec (used ≤ length out) → (take start out ≡ take used out) × (drop start out ≡ drop used out)
      go (yes h) =
          let z : start ≡ used = omega arith in
          (rw z, rw z)
      go (no h) =
          let z : length out ≤ start = omega arith in
          let y : length out ≤ used = omega arith in
          (take_all start out z ∙ sym (take_all used out y), drop_of_length-le out z ∙ sym (drop_of_length-le out y))

  -- all from there on
  lent : take (length out - start) (drop start out) ≡ drop used out
  lent = take_all (length out - start) (drop start out) (simp length-drop (omega arith)) ∙ starts.1

  past : drop (length out - start) (drop start out) ≡ []
  past = drop_of_length-le (drop start out) {i = length out - start} (simp length-drop (omega arith))

-- what is laid over the places that aren't used is what stands there after it
laid-there : (xs out : List ℕ) (used : ℕ) → drop used (take used out ++ laid xs (drop used out)) ≡ laid xs (drop used out)
laid-there xs out used = go (dec_le used (length out))
  where
    go : Dec (used ≤ length out) → drop used (take used out ++ laid xs (drop used out)) ≡ laid xs (drop used out)
    go (yes h) = drop_at (take used out) (laid xs (drop used out)) used (length-take-le used out h)
    go (no h) =
        let short : length out ≤ used = omega arith in
        rw (drop_of_length-le out short, drop-nil, append-nil, take_all used out short, drop_of_length-le out short)

module _ (d : Description) (n : ℕ) (body : List ℕ) (w : Window) (out : List ℕ) (used : ℕ) {start : ℕ} (e : start ≡ min used (length out)) where
  pub step-used : {r : Answer} → r ≡ query_answer d n body w → {more : ℕ} → more ≡ min r.found (length out - start)
      → ◌≡◌ {A = Asked} (record { answer = r; used = used + more }) (asked_from d n body w (length out) used)
  unfolding asked_from
  step-used told m =
      let z : length out - start ≡ length out - used = omega arith in
      rw (m, z, told)

  module _ {part : List ℕ} (left : part ≡ query_buffer d n body w (take (length out - start) (drop start out))) where
    pub step-buffer : take start out ++ (part ++ drop (length out - start) (drop start out)) ≡ asked_buffer d n body w out used
    unfolding asked_buffer
    step-buffer = rw (left, lent out used e, past out used e, append-nil, (starts out used e).0)

    pub step-promises : {r : Answer} → r ≡ query_answer d n body w
        → Promises d n body w r (drop used out) (drop used (take start out ++ (part ++ drop (length out - start) (drop start out))))
    unfolding asked_buffer
    step-promises told =
        keeps d n body w told (drop used out)
        (ap (drop used) step-buffer ∙ rw (tiles-laid d n body w (drop used out)) (laid-there (found_by d n body w) out used))
