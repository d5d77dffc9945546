-- What is had back from the text? No field holds a tab or a newline, so the lines of the text are its records (`one_each`), the parts of such a
-- line are its fields (`fields_back`), and the second of them is `same` exactly if both numbers agree (`same-only`, `same-where`).
-- Assumes nothing.
use mathlib.Core.Path.{◌≡◌, refl, ap, sym, ◌∙◌}
use mathlib.Core.Bool.{Bool, true, false, cond, ◌&&◌}
use mathlib.Core.List.{List, [], ◌∷◌, ◌++◌}
use Prim.Native.Nat.{ℕ, ◌<◌}
use native.Mathlib.Nat.{zero-add}
use native.Mathlib.Omega.{arith}
use lib.Dec.{eqb, leb, lit<}
use lib.ListN.{length, get_or}
use borrow.Author.Tests.{leb-true, ne_eqb, eq-eqb, eqb-true}
use Rattle.std.specs.Option.{unwrap_or}
use Rattle.answers.proofs.Filled.{row-length, row_at}
use Rattle.description.specs.declared.Description.{Description}
use Rattle.description.proofs.Tests.{both}
use Rattle.decimal.specs.Decimal.{decimal, is_digit, all_digits, starts_well, is_decimal}
use Rattle.decimal.proofs.Back.{decimal-decimal}
use Rattle.text.specs.Text.{Bytes, tab, newline, cut, lines, line_at, parts, part, joined, every}
use Rattle.text.proofs.Back.{Free, cut-ended, lines-joined}
use Rattle.replay.specs.Records.{logged_found, logged_looked}
use Rattle.replay.specs.Replay.{same_word, differs_word, bad_word, answer_now, is_good, record_text, record_text_by, replay_text, replay_text_by, OneEach}

-- ---- digits and letters, from 48 on, hold no separator
high-free : (sep : ℕ) → sep < 48 → (t : Bytes) → every (leb 48) t ≡ true → Free sep t
unfolding every
high-free sep low [] h = tt
high-free sep low (b ∷ t) h =
    let x = both (leb 48 b) (every (leb 48) t) h in
    let l = leb-true 48 b x.0 in
    (ne_eqb b sep (λ e. omega arith), high-free sep low t x.1)

digits-high : (t : Bytes) → all_digits t ≡ true → every (leb 48) t ≡ true
unfolding all_digits every
digits-high [] h = refl
digits-high (b ∷ t) h =
    let x = both (is_digit b) (all_digits t) h in
    rw (both (leb 48 b) (leb b 57) x.0).0 (digits-high t x.1)

decimal-free : (sep : ℕ) → sep < 48 → (n : ℕ) → Free sep (decimal n)
unfolding is_decimal
decimal-free sep low n =
    high-free sep low (decimal n) (digits-high (decimal n) (both (starts_well (decimal n)) (all_digits (decimal n)) (decimal-decimal n)).1)

-- ---- tab-parted pieces
abbrev AllFree : ℕ → List Bytes → Type 0
AllFree sep [] = Unit {0}
AllFree sep (p ∷ ps) = Free sep p × AllFree sep ps

free-append : (sep : ℕ) (xs : Bytes) (ys : Bytes) → Free sep xs → Free sep ys → Free sep (xs ++ ys)
free-append sep [] ys h k = k
free-append sep (x ∷ xs) ys h k = (h.0, free-append sep xs ys h.1 k)

no-newline : (ps : List Bytes) → AllFree newline ps → Free newline (joined tab ps)
no-newline [] h = tt
no-newline (p ∷ []) h = h.0
no-newline (p ∷ q ∷ ps) h = free-append newline p (tab ∷ joined tab (q ∷ ps)) h.0 (refl, no-newline (q ∷ ps) h.1)

alone : (sep : ℕ) (t : Bytes) → Free sep t → parts sep t ≡ t ∷ []
unfolding cut
alone sep [] h = refl
alone sep (b ∷ t) h = rw (h.0, alone sep t h.1)

pieces-back : (ps : List Bytes) → 0 < length ps → AllFree tab ps → parts tab (joined tab ps) ≡ ps
pieces-back [] l h = absurd (omega arith)
pieces-back (p ∷ []) l h = alone tab p h.0
pieces-back (p ∷ q ∷ ps) l h =
    cut-ended tab ([] ∷ []) p (joined tab (q ∷ ps)) h.0 refl ∙ ap (λ (x : List Bytes). p ∷ x) (pieces-back (q ∷ ps) (omega arith) h.1)

-- ---- a record
module _ (d : Description) (n : ℕ) (body : Bytes) (i : ℕ) (line : Bytes) where
  abbrev found : ℕ
  found = unwrap_or (logged_found d line) 0

  abbrev looked : ℕ
  looked = unwrap_or (logged_looked d line) 0

  abbrev found_now_lem : ℕ
  found_now_lem = (answer_now d n body line).found

  abbrev looked_now_lem : ℕ
  looked_now_lem = (answer_now d n body line).looked

  -- the fields of its line, where it is good or not, with that word
  abbrev fields_as : Bool → Bytes → List Bytes
  fields_as good word =
      cond good (decimal i ∷ word ∷ decimal found ∷ decimal looked ∷ decimal found_now_lem ∷ decimal looked_now_lem ∷ []) (decimal i ∷ bad_word ∷ [])

  abbrev pub fields_of : List Bytes
  fields_of = fields_as (is_good d n body line) (cond (eqb found found_now_lem && eqb looked looked_now_lem) same_word differs_word)

  joined-fields : record_text d n body i line ≡ joined tab fields_of
  unfolding record_text_by
  joined-fields = go (is_good d n body line) (cond (eqb found found_now_lem && eqb looked looked_now_lem) same_word differs_word)
    where
      go : (good : Bool) (word : Bytes)
          → cond good (joined tab (decimal i ∷ word ∷ decimal found ∷ decimal looked ∷ decimal found_now_lem ∷ decimal looked_now_lem ∷ [])) (joined tab (decimal i ∷ bad_word ∷ []))
          ≡ joined tab (fields_as good word)
      go true word = refl
      go false word = refl

  -- no field holds a separator
  module _ (sep : ℕ) (low : sep < 48) where
    word-free : (b : Bool) → Free sep (cond b same_word differs_word)
    unfolding every
    word-free true = high-free sep low same_word refl
    word-free false = high-free sep low differs_word refl

    as-free : (good : Bool) (word : Bytes) → Free sep word → AllFree sep (fields_as good word)
    unfolding every
    as-free true word h =
        let number = decimal-free sep low in
        (number i, (h, (number found, (number looked, (number found_now_lem, (number looked_now_lem, tt))))))
    as-free false word h = (decimal-free sep low i, (high-free sep low bad_word refl, tt))

    fields_free : AllFree sep fields_of
    fields_free = as-free (is_good d n body line) _ (word-free (eqb found found_now_lem && eqb looked looked_now_lem))

  some-fields : (good : Bool) (word : Bytes) → 0 < length (fields_as good word)
  some-fields true word = omega arith
  some-fields false word = omega arith

  record-free : Free newline (record_text d n body i line)
  record-free = rw joined-fields (no-newline fields_of (fields_free newline (lit< tt)))

  pub fields_back : parts tab (record_text d n body i line) ≡ fields_of
  fields_back = rw joined-fields (pieces-back fields_of (some-fields (is_good d n body line) _) (fields_free tab (lit< tt)))

  -- "`same` (exactly if both numbers agree)"
  abbrev pub Agree : Type 0
  Agree = (is_good d n body line ≡ true) × ((found ≡ found_now_lem) × (looked ≡ looked_now_lem))

  pub same-only : part tab 1 (record_text d n body i line) ≡ same_word → Agree
  same-only h =
      go (is_good d n body line) (eqb found found_now_lem) (eqb looked looked_now_lem) refl (eqb-true found found_now_lem) (eqb-true looked looked_now_lem)
      (ap (λ (ps : List Bytes). get_or ps 1 []) (sym fields_back) ∙ h)
    where
      other : (w : Bytes) → w ≡ same_word → (get_or w 0 0 ≡ 115 → ⊥) → ⊥
      other w e f = f (ap (λ (x : Bytes). get_or x 0 0) e)

      go : (good a b : Bool) → is_good d n body line ≡ good → (a ≡ true → found ≡ found_now_lem) → (b ≡ true → looked ≡ looked_now_lem)
          → get_or (fields_as good (cond (a && b) same_word differs_word)) 1 [] ≡ same_word → Agree
      go true true true g f l h = (g, (f refl, l refl))
      go true true false g f l h = absurd (other differs_word h (λ z. omega arith))
      go true false b g f l h = absurd (other differs_word h (λ z. omega arith))
      go false a b g f l h = absurd (other bad_word h (λ z. omega arith))

  pub same-where : Agree → part tab 1 (record_text d n body i line) ≡ same_word
  same-where a =
      ap (λ (ps : List Bytes). get_or ps 1 []) fields_back ∙ rw (a.0, eq-eqb found found_now_lem a.1.0, eq-eqb looked looked_now_lem a.1.1)

-- ---- all records
module _ (d : Description) (n : ℕ) (body log : Bytes) where
  abbrev row : ℕ → Bytes
  row i = record_text d n body i (line_at i log)

  pub one_each : OneEach d n body log (replay_text d n body log)
  unfolding replay_text_by
  one_each =
      let l = lines-joined row (λ i. record-free d n body i (line_at i log)) 0 (length (lines log)) in
      record {
        many = ap length l ∙ row-length row 0 (length (lines log));
        line = λ i h. ap (λ (ls : List Bytes). get_or ls i []) l ∙ row_at row 0 (length (lines log)) i [] h ∙ rw zero-add;
      }
