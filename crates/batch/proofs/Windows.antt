-- What do the windows of a batch come to? Each finds its tiles, or none where it is refused, and they are laid over the buffer one window after the
-- other: so the buffer holds the found tiles of all windows, as many as fit (`batch-laid`). A window's own places hold what it would write
-- to what the earlier ones left, and all that a query promises follows (`each-promised`).
-- Assumes nothing.
use mathlib.Core.Path.{◌≡◌, refl, ap, sym, ◌∙◌}
use mathlib.Core.Bool.{Bool, true, false, cond}
use mathlib.Core.List.{List, [], ◌∷◌, ◌++◌, append_assoc, append-nil}
use Prim.Native.Nat.{ℕ, zero, suc, ◌<◌}
use native.Mathlib.Omega.{arith}
use lib.Dec.{eqb}
use lib.ListN.{length, get_or, take, drop, length-append}
use lib.Seq.{take-suc, split_at, drop-drop}
use Rattle.answers.specs.Laid.{laid}
use Rattle.description.specs.declared.Description.{Description}
use Rattle.boxes.specs.declared.Window.{Window}
use Rattle.query.specs.Query.{query_refusal, found_at, looked_at, refused_answer, query_answer_by, query_answer, query_buffer_by, query_buffer}
use Rattle.query.proofs.Promised.{keeps}
use Rattle.batch.specs.Batch.{no_window, no_answer, batch_answers, batch_answers_by, batch_buffer, batch_buffer_by, found_by, found_by_all, part_before, part_after, EachPromises}
use Rattle.batch.proofs.Laying.{laid_nil, laid-append, laid-front, laid-rest, laid_from, laid-own}

module _ (d : Description) (n : ℕ) (body : List ℕ) where
  -- one window
  pub found-tiles : (w : Window) → (query_answer d n body w).found ≡ length (found_by d n body w)
  unfolding query_answer_by found_by
  found-tiles w = go (eqb (query_refusal d n body w).number 0)
    where
      go : (t : Bool)
          → (cond t (record { number = 0; place = 0; found = length (found_at d n body w); looked = looked_at d n body w }) (refused_answer (query_refusal d n body w))).found
          ≡ length (cond t (found_at d n body w) [])
      go true = refl
      go false = refl

  pub tiles-laid : (w : Window) (out : List ℕ) → query_buffer d n body w out ≡ laid (found_by d n body w) out
  unfolding query_buffer_by found_by
  tiles-laid w out = go (eqb (query_refusal d n body w).number 0)
    where
      go : (t : Bool) → cond t (laid (found_at d n body w) out) out ≡ laid (cond t (found_at d n body w) []) out
      go true = refl
      go false = sym (laid_nil out)

  -- the buffer holds the found tiles of all windows that aren't refused, one after the other, as many as fit
  pub batch-laid : (ws : List Window) (out : List ℕ) → batch_buffer d n body ws out ≡ laid (found_by_all d n body ws) out
  unfolding batch_buffer_by found_by_all
  batch-laid [] out = sym (laid_nil out)
  batch-laid (w ∷ ws) out =
      rw (tiles-laid w out, found-tiles w, laid-front (found_by d n body w) out, laid-rest (found_by d n body w) out, batch-laid ws (drop (length (found_by d n body w)) out))
      (sym (laid-append (found_by d n body w) (found_by_all d n body ws) out))

  -- windows one after the other
  pub found-append : (us ws : List Window) → found_by_all d n body (us ++ ws) ≡ found_by_all d n body us ++ found_by_all d n body ws
  unfolding found_by_all
  found-append [] ws = refl
  found-append (u ∷ us) ws = rw (found-append us ws, append_assoc)

  found-one : (w : Window) → found_by_all d n body (w ∷ []) ≡ found_by d n body w
  unfolding found_by_all
  found-one w = append-nil (found_by d n body w)

  pub found-more : (ws : List Window) (i : ℕ) → i < length ws
      → found_by_all d n body (take (suc i) ws) ≡ found_by_all d n body (take i ws) ++ found_by d n body (get_or ws i no_window)
  found-more ws i h = rw (take-suc ws i no_window h, found-append (take i ws) (get_or ws i no_window ∷ []), found-one (get_or ws i no_window))

  -- each window's answer
  pub answer_at : (ws : List Window) (i : ℕ) → i < length ws → get_or (batch_answers d n body ws) i no_answer ≡ query_answer d n body (get_or ws i no_window)
  unfolding batch_answers_by
  answer_at [] i h = absurd (omega arith)
  answer_at (w ∷ ws) zero h = refl
  answer_at (w ∷ ws) (suc i) h = answer_at ws i (omega arith)

  module _ (ws : List Window) (out : List ℕ) (i : ℕ) (h : i < length ws) where
    abbrev w : Window
    w = get_or ws i no_window

    abbrev found : List ℕ
    found = found_by d n body w

    abbrev before : List ℕ
    before = found_by_all d n body (take i ws)

    abbrev after : List ℕ
    after = found_by_all d n body (drop (suc i) ws)

    parts : found_by_all d n body ws ≡ before ++ (found ++ after)
    unfolding found_by_all
    parts = ap (found_by_all d n body) (split_at ws i no_window h) ∙ found-append (take i ws) (w ∷ drop (suc i) ws)

    -- its own places, and the others
    own-places : part_after d n body ws out (batch_buffer d n body ws out) i ≡ query_buffer d n body w (part_before d n body ws out i)
    own-places =
        rw (
          batch-laid ws out,
          parts,
          laid_from before (found ++ after) out,
          laid-own found after (drop (length before) out),
          found-more ws i h,
          length-append before found,
          ← (drop-drop (length found) (length before) out),
        )
        (sym (tiles-laid w (drop (length before) out)))

  pub each-promised : (ws : List Window) (out : List ℕ) → EachPromises d n body ws (batch_answers d n body ws) out (batch_buffer d n body ws out)
  each-promised ws out i h = keeps d n body (get_or ws i no_window) (answer_at ws i h) (part_before d n body ws out i) (own-places ws out i h)
