-- A record's line as the code writes it, piece by piece. What is asked of the room goes over from the whole to its parts (`fits-left`,
-- `fits-right`), so that no place is past 2^64.
-- Assumes nothing.
use mathlib.Core.Path.{◌≡◌}
use mathlib.Core.Bool.{Bool, true, false, cond}
use mathlib.Core.List.{[], ◌∷◌, ◌++◌, append_assoc}
use Prim.Native.Nat.{ℕ, ◌+◌, ◌≤◌}
use native.Mathlib.Omega.{arith}
use lib.ListN.{length, length-append}
use Rattle.decimal.specs.Decimal.{decimal}
use Rattle.text.specs.Text.{Bytes, tab, newline, joined}
use Rattle.text.specs.Write.{field}
use Rattle.text.specs.Code.Places.{Wrote}
use Rattle.text.proofs.Writing.{wrote-append, wrote-size}
use Rattle.std.specs.Prelude.{Option, Some, None}
use Rattle.replay.specs.declared.Compared.{Compared}
use Rattle.replay.specs.Replay.{same_word, differs_word, bad_word}
use Rattle.replay.specs.Code.Writing.{outcome_line, agreed, pair_text, verdict}

-- ---- the room of a whole is the room of its parts
pub fits-left : (at : ℕ) (xs ys : Bytes) {size : ℕ} → at + length (xs ++ ys) ≤ size → at + length xs ≤ size
fits-left at xs ys h = omega (arith, length-append xs ys)

pub fits-right : {before middle xs : Bytes} (ys : Bytes) {at next : ℕ} → Wrote 0 before at xs middle next
    → at + length (xs ++ ys) ≤ length before → next + length ys ≤ length middle
fits-right {before} {middle} {xs} ys w h = omega (arith, w.place, wrote-size w, length-append xs ys)

pub verdict-short : (same : Bool) → length (verdict same) ≤ 8
verdict-short true = omega arith
verdict-short false = omega arith

-- `bad`, and a newline
abbrev bad_line : Bytes
bad_line = bad_word ++ newline ∷ []

-- ---- a record's line in its pieces: its number, and what stands after that
abbrev rest_of : Compared → Bool → Bytes
rest_of r same = verdict same ++ (pair_text r.logged tab ++ pair_text r.now newline)

compared : (i : ℕ) (r : Compared) → outcome_line i (Some r) ≡ field i tab ++ rest_of r (agreed r)
compared i r = go (agreed r)
  where
    go : (b : Bool)
        → joined tab (decimal i ∷ cond b same_word differs_word ∷ decimal r.logged.found ∷ decimal r.logged.looked ∷ decimal r.now.found ∷ decimal r.now.looked ∷ []) ++ newline ∷ []
        ≡ field i tab ++ rest_of r b
    go true = simp append_assoc
    go false = simp append_assoc

bad : (i : ℕ) → outcome_line i None ≡ field i tab ++ bad_line
bad i = simp append_assoc

either : (i : ℕ) (o : Option Compared) → (rest : Bytes) × (outcome_line i o ≡ field i tab ++ rest)
either i None = (bad_line, bad i)
either i (Some r) = (rest_of r (agreed r), compared i r)

-- how long it is
pub bad-length : (i : ℕ) → length (decimal i) + 5 ≡ length (outcome_line i None)
bad-length i = rw (bad i) (omega (arith, length-append (field i tab) bad_line, length-append (decimal i) (tab ∷ [])))

pub good_length : (i : ℕ) (r : Compared) {same : Bool} → same ≡ agreed r
    → length (decimal i) + 1 + length (verdict same) + (length (decimal r.logged.found) + length (decimal r.logged.looked) + 2
    + (length (decimal r.now.found) + length (decimal r.now.looked) + 2))
    ≡ length (outcome_line i (Some r))
good_length i r {same} s = rw (compared i r, ← s) (simp length-append (omega arith))

-- what is asked of the room at each piece, and what they come to
pub number-room : (i : ℕ) (o : Option Compared) (before : Bytes) (at : ℕ) → at + length (outcome_line i o) ≤ length before
    → at + length (field i tab) ≤ length before
number-room i o before at room =
    let x = either i o in
    fits-left at (field i tab) x.0 (rw x.1 at room)

module _ (i : ℕ) (before : Bytes) (at : ℕ) {numbered : Bytes} {first : ℕ} (w : Wrote 0 before at (field i tab) numbered first) where
  pub bad-room : at + length (outcome_line i None) ≤ length before → first + 4 ≤ length numbered
  bad-room room = fits-right bad_line w (rw (bad i) at room)

  pub bad-wrote : {after : Bytes} {next : ℕ} → Wrote 0 numbered first bad_line after next → Wrote 0 before at (outcome_line i None) after next
  bad-wrote v = rw (bad i) (wrote-append w v)

  module _ (r : Compared) (room : at + length (outcome_line i (Some r)) ≤ length before) {same : Bool} (s : same ≡ agreed r) where
    rest-room : first + length (rest_of r same) ≤ length numbered
    rest-room = fits-right (rest_of r same) w (rw s (rw (compared i r) at room))

    pub verdict-room : first + length (verdict same) ≤ length numbered
    verdict-room = fits-left first (verdict same) (pair_text r.logged tab ++ pair_text r.now newline) rest-room

    module _ {judged : Bytes} {second : ℕ} (v : Wrote 0 numbered first (verdict same) judged second) where
      pairs-room : second + length (pair_text r.logged tab ++ pair_text r.now newline) ≤ length judged
      pairs-room = fits-right _ v rest-room

      pub logged-room : second + length (pair_text r.logged tab) ≤ length judged
      logged-room = fits-left second (pair_text r.logged tab) (pair_text r.now newline) pairs-room

      module _ {paired : Bytes} {third : ℕ} (l : Wrote 0 judged second (pair_text r.logged tab) paired third) where
        pub now-room : third + length (pair_text r.now newline) ≤ length paired
        now-room = fits-right (pair_text r.now newline) l pairs-room

        pub good-wrote : {after : Bytes} {next : ℕ} → Wrote 0 paired third (pair_text r.now newline) after next
            → Wrote 0 before at (outcome_line i (Some r)) after next
        good-wrote n = rw (compared i r, ← s) (wrote-append w (wrote-append v (wrote-append l n)))
