-- The lines of a text by the places where they start: line i is the piece from its place on, and the next one starts past its newline.
-- A line that is not there is empty, so that a cursor may go on at the end of the text.
-- Assumes nothing.
use mathlib.Core.Path.{◌≡◌, refl, ap, sym, ◌∙◌}
use mathlib.Core.List.{List, [], ◌∷◌}
use Prim.Native.Nat.{ℕ, ◌+◌, ◌-◌, ◌≤◌, ◌<◌}
use native.Mathlib.Nat.{add-zero}
use native.Mathlib.Decide.{dec_lt}
use native.Mathlib.Omega.{arith}
use lib.ListN.{length, take, drop, get_or, length-drop, drop_of_length-le}
use lib.Seq.{drop-drop, get_or-drop, take-nil}
use lib.Dec.{leb}
use borrow.Author.Tests.{le-leb, lt-leb, lt-ltb, le-ltb}
use Rattle.text.specs.Text.{Bytes, newline, cut, lines, line_at, piece_length}
use Rattle.text.specs.Cursor.{end_from, piece_from, after}
use Rattle.text.specs.Code.Places.{AtLine}
use Rattle.text.proofs.Pieces.{piece-le, piece-taken, piece-ends, line-there}

-- ---- past a separator, or at the end of the text
module _ (t : Bytes) (e : ℕ) where
  after_on : e < length t → after t e ≡ e + 1
  after_on h = rw (lt-ltb e (length t) h)

  after-end : length t ≤ e → after t e ≡ e
  after-end h = rw (le-ltb e (length t) h)

  pub after-rest : drop (after t e) t ≡ drop (e + 1) t
  after-rest = go (dec_lt e (length t))
    where
      go : Dec (e < length t) → drop (after t e) t ≡ drop (e + 1) t
      go (yes h) = rw (after_on h)
      go (no h) =
          rw (after-end (omega arith)) (drop_of_length-le t {i = e} (omega arith) ∙ sym (drop_of_length-le t {i = e + 1} (omega arith)))

  pub after-low : e ≤ after t e
  after-low = go (dec_lt e (length t))
    where
      go : Dec (e < length t) → e ≤ after t e
      go (yes h) = omega (arith, after_on h)
      go (no h) = omega (arith, after-end (omega arith))

  pub after-past : e < length t → e < after t e
  after-past h = omega (arith, after_on h)

  pub after-inside : e ≤ length t → after t e ≤ length t
  after-inside l = go (dec_lt e (length t))
    where
      go : Dec (e < length t) → after t e ≤ length t
      go (yes h) = omega (arith, after_on h)
      go (no h) = omega (arith, after-end (omega arith))

-- ---- as a cursor goes: line i starts at a place and ends at e
module _ (t : Bytes) where
  pub first-line : AtLine t 0 0
  first-line = record { rest = refl }

  no_lines : (at : ℕ) → length t ≤ at → lines (drop at t) ≡ []
  unfolding cut
  no_lines at h = rw (drop_of_length-le t {i = at} h)

  module _ (i : ℕ) {at : ℕ} (here : AtLine t i at) where
    -- what is left is that line and others
    left : at < length t → drop i (lines t) ≡ piece_from newline t at ∷ lines (drop (end_from newline t at + 1) t)
    left h = sym here.rest ∙ line-there t at (end_from newline t at) h refl ∙ rw (piece-taken newline t at (end_from newline t at) refl)

    pub this-line : piece_from newline t at ≡ line_at i t
    this-line = go (dec_lt at (length t))
      where
        first : get_or (drop i (lines t)) 0 [] ≡ line_at i t
        first = get_or-drop i (lines t) 0 [] ∙ rw (add-zero i)

        go : Dec (at < length t) → piece_from newline t at ≡ line_at i t
        go (yes h) = ap (λ (x : List Bytes). get_or x 0 []) (sym (left h)) ∙ first
        go (no h) =
            rw (drop_of_length-le t {i = at} (omega arith)) (take-nil (piece_length newline []))
            ∙ ap (λ (x : List Bytes). get_or x 0 []) (sym (no_lines at (omega arith)) ∙ here.rest) ∙ first

  module _ (i : ℕ) {at e : ℕ} (here : AtLine t i at) (end : e ≡ end_from newline t at) where
    pub line-at : take (e - at) (drop at t) ≡ line_at i t
    line-at = piece-taken newline t at e end ∙ this-line i here

    pub end-inside : at ≤ length t → e ≤ length t
    end-inside h = omega (arith, piece-le newline (drop at t), length-drop at t)

    module _ {next : ℕ} (past : next ≡ after t e) where
      pub next-line : AtLine t (i + 1) next
      next-line = record { rest = rw past (ap (λ (x : Bytes). lines x) (after-rest t e) ∙ go (dec_lt at (length t))) }
        where
          go : Dec (at < length t) → lines (drop (e + 1) t) ≡ drop (i + 1) (lines t)
          go (yes h) = rw end (sym (ap (λ (x : List Bytes). drop 1 x) (left i here h))) ∙ drop-drop 1 i (lines t)
          go (no h) =
              no_lines (e + 1) (omega arith)
              ∙ sym (ap (λ (x : List Bytes). drop 1 x) (sym here.rest ∙ no_lines at (omega arith))) ∙ drop-drop 1 i (lines t)

      pub next-inside : at ≤ length t → next ≤ length t
      next-inside h = rw past (after-inside t e (end-inside h))

      pub next_past : at < length t → at < next
      next_past h = go (dec_lt at e)
        where
          go : Dec (at < e) → at < next
          go (yes l) = omega (arith, past, after-low t e)
          go (no l) = omega (arith, past, after-past t e (omega arith))

  -- the same where the line was taken as a piece
  pub past-line : (i : ℕ) {at next : ℕ} {line : Bytes} → AtLine t i at → line ≡ piece_from newline t at → next ≡ after t (at + length line)
      → AtLine t (i + 1) next
  past-line i {at} here is past = next-line i here (piece-ends newline t at (ap length is)) past

-- the text is left behind exactly if the lines are
module _ {t : Bytes} {i at : ℕ} (here : AtLine t i at) where
  counted : length (lines (drop at t)) ≡ length (lines t) - i
  counted = ap length here.rest ∙ length-drop i (lines t)

  pub more-lines : at < length t → i < length (lines t)
  more-lines h = omega (arith, counted, ap length (line-there t at (end_from newline t at) h refl))

  pub no-more-lines : length t ≤ at → length (lines t) ≤ i
  no-more-lines h = omega (arith, counted, ap length (no_lines t at h))

  pub lines-past : leb (length t) at ≡ leb (length (lines t)) i
  lines-past = go (dec_lt at (length t))
    where
      go : Dec (at < length t) → leb (length t) at ≡ leb (length (lines t)) i
      go (yes h) = rw (lt-leb (length t) at h, lt-leb (length (lines t)) i (more-lines h))
      go (no h) = rw (le-leb (length t) at (omega arith), le-leb (length (lines t)) i (no-more-lines (omega arith)))
