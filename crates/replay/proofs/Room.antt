-- How long can the text be? A query finds and looks at no more boxes than the body has bytes, so that every number of a line has at most 20
-- digits; and a log has no more lines than bytes. So 113 bytes a line are always room enough (`room-enough`).
-- Assumes nothing.
use mathlib.Core.Path.{◌≡◌, refl, sym}
use mathlib.Core.Bool.{Bool, true, false, cond}
use mathlib.Core.List.{List, [], ◌∷◌, ◌++◌}
use Prim.Native.Nat.{ℕ, zero, suc, ◌+◌, ◌-◌, ◌*◌, ◌/◌, ◌^◌, ◌≤◌, ◌<◌}
use native.Mathlib.Nat.{le-div_iff_mul-le}
use native.Mathlib.Omega.{arith}
use lib.Dec.{eqb, leb, lit<}
use lib.ListN.{length, length-append}
use borrow.Author.Tests.{eqb-true, le-leb}
use Rattle.std.specs.Option.{unwrap_or}
use Rattle.answers.specs.Runs.{over, join}
use Rattle.answers.proofs.Runs.{Each}
use Rattle.description.specs.declared.Description.{Description}
use Rattle.description.specs.Description.{sides_of, bytes_of_box}
use Rattle.boxes.specs.declared.Window.{Window}
use Rattle.decimal.proofs.Written.{twenty-digits}
use Rattle.decimal.proofs.Steps.{value-most}
use Rattle.tree.specs.Shape.{height}
use Rattle.tree.proofs.Places.{boxes-inside}
use Rattle.tree.proofs.Steps.{found-le}
use Rattle.tree.proofs.Demand3.{no-more-than-boxes}
use Rattle.rtree.specs.Body.{fanout_of}
use Rattle.query.specs.declared.Answer.{Answer}
use Rattle.query.specs.Query.{meeting, looked_at, found_at, refused_answer, query_refusal, query_answer, query_answer_by}
use Rattle.query.proofs.Promised.{passed-all}
use Rattle.text.specs.Text.{Bytes, newline, onto, cut, lines, line_at, part, tab}
use Rattle.std.specs.Prelude.{Some, None}
use Rattle.replay.specs.declared.Compared.{Compared}
use Rattle.replay.specs.Records.{logged_window, logged_found, logged_looked}
use Rattle.replay.specs.Replay.{compared_text, bad_text, answer_now, is_good, record_text, record_text_by, record_line, replay_text, replay_text_by, most_line}
use Rattle.replay.specs.Code.Writing.{outcome_line, agreed}
use Rattle.replay.proofs.Writing.{bad-length, good_length, verdict-short}

-- ---- what a query answers fits
module _ (d : Description) (n : ℕ) (body : Bytes) (w : Window) (small : length body < 2 ^ 64) where
  looked-few : (query_refusal d n body w).number ≡ 0 → looked_at d n body w < 2 ^ 64
  looked-few clear =
      let p = passed-all d n body w clear in
      omega (
        arith,
        p.whole,
        no-more-than-boxes (fanout_of body) n (meeting d n body w) p.sizes.least p.sizes.some,
        boxes-inside (fanout_of body) n (bytes_of_box d) (omega (arith, p.described.some_bytes)),
      )

  found-few : (query_refusal d n body w).number ≡ 0 → length (found_at d n body w) < 2 ^ 64
  found-few clear = omega (arith, looked-few clear, found-le (fanout_of body) n (meeting d n body w) (height (fanout_of body) n) 0)

  pub answer-fits : ((query_answer d n body w).found < 2 ^ 64) × ((query_answer d n body w).looked < 2 ^ 64)
  unfolding query_answer_by
  answer-fits = go (eqb (query_refusal d n body w).number 0) (λ e. eqb-true (query_refusal d n body w).number 0 e)
    where
      told : Bool → Answer
      told t =
          cond t (record { number = 0; place = 0; found = length (found_at d n body w); looked = looked_at d n body w })
          (refused_answer (query_refusal d n body w))

      go : (t : Bool) → (t ≡ true → (query_refusal d n body w).number ≡ 0) → ((told t).found < 2 ^ 64) × ((told t).looked < 2 ^ 64)
      go true clear = (found-few (clear refl), looked-few (clear refl))
      go false clear = (omega arith, omega arith)

-- ---- one line
module _ (d : Description) (n : ℕ) (body : Bytes) (small : length body < 2 ^ 64) (i : ℕ) (low : i < 2 ^ 64) (line : Bytes) where
  told : Compared
  told = record {
    logged = record { found = unwrap_or (logged_found d line) 0; looked = unwrap_or (logged_looked d line) 0 };
    now = record { found = (answer_now d n body line).found; looked = (answer_now d n body line).looked };
  }

  told-most : (good : Bool) → length (outcome_line i (cond good (Some told) None)) ≤ most_line
  unfolding told
  told-most false = omega (arith, bad-length i, twenty-digits i low)
  told-most true =
      let a = answer-fits d n body (logged_window d line) small in
      omega (
        arith,
        good_length i told refl,
        verdict-short (agreed told),
        twenty-digits i low,
        twenty-digits told.logged.found (omega (arith, value-most (2 ^ 64 - 1) (part tab (2 * sides_of d.dimensions) line))),
        twenty-digits told.logged.looked (omega (arith, value-most (2 ^ 64 - 1) (part tab (2 * sides_of d.dimensions + 1) line))),
        twenty-digits told.now.found a.0,
        twenty-digits told.now.looked a.1,
      )

  line-most : length (record_text d n body i line ++ newline ∷ []) ≤ most_line
  unfolding record_text_by told
  line-most = go (is_good d n body line) (told-most (is_good d n body line))
    where
      go : (b : Bool) → length (outcome_line i (cond b (Some told) None)) ≤ most_line
          → length (cond b (compared_text i told.logged.found told.logged.looked told.now.found told.now.looked) (bad_text i) ++ newline ∷ []) ≤ most_line
      go true h = h
      go false h = h

-- ---- all lines
join-most : (g : ℕ → Bytes) (most k m : ℕ) → Each (λ i. length (g i) ≤ most) k m → length (join g k m) ≤ most * m
unfolding over
join-most g most k zero p = omega arith
join-most g most k (suc m) p =
    omega (
      arith,
      length-append (g k) (join g (suc k) m),
      p k (omega arith) (omega arith),
      join-most g most (suc k) m (λ i a b. p i (omega arith) (omega arith)),
    )

onto-most : (b : ℕ) (ps : List Bytes) → length (onto b ps) ≤ 1 + length ps
onto-most b [] = omega arith
onto-most b (p ∷ ps) = omega arith

pub lines-few : (t : Bytes) → length (lines t) ≤ length t
unfolding cut
lines-few [] = omega arith
lines-few (b ∷ t) = go (eqb b newline) (lines-few t)
  where
    go : (e : Bool) → length (lines t) ≤ length t → length (cond e ([] ∷ lines t) (onto b (lines t))) ≤ suc (length t)
    go true h = omega arith
    go false h = omega (arith, onto-most b (lines t))

module _ (d : Description) (n : ℕ) (body log : Bytes) (small : length body < 2 ^ 64) (short : length log < 2 ^ 64) where
  -- 113 bytes a line are always room enough
  pub room-enough : length (replay_text d n body log) ≤ most_line * length (lines log)
  unfolding replay_text_by
  room-enough =
      join-most (record_line d n body log) 113 0 (length (lines log))
      (λ i a b. line-most d n body small i (omega (arith, lines-few log)) (line_at i log))

  pub ample : {count : ℕ} (room : ℕ) → count ≡ length (lines log) → count ≤ room / 113 → true ≡ leb (length (replay_text d n body log)) room
  ample {count} room many h =
      let r = (le-div_iff_mul-le {k = 113} {x = count} {y = room} (lit< tt)).0 h in
      sym (le-leb (length (replay_text d n body log)) room (omega (arith, room-enough)))
