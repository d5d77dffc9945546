-- The parts of a text by the places where they start: part k is the piece from its place on, and the next one starts after its end.
-- Assumes nothing.
use mathlib.Core.Path.{◌≡◌, ap, sym, ◌∙◌}
use mathlib.Core.Bool.{cond}
use mathlib.Core.List.{List, [], ◌∷◌}
use Prim.Native.Nat.{ℕ, suc, ◌+◌, ◌-◌, ◌≤◌, ◌<◌}
use native.Mathlib.Nat.{add-zero}
use native.Mathlib.Numerals.{add-one}
use native.Mathlib.Decide.{dec_le}
use native.Mathlib.Omega.{arith}
use lib.Dec.{eqb, ltb}
use lib.ListN.{length, take, drop, get_or, length-drop, drop_of_length-le}
use lib.Seq.{drop-drop, get_or-drop, take-nil}
use borrow.Author.Tests.{eq-eqb, ne_eqb, eqb-true, le-leb, lt-leb, lt-ltb, le-ltb}
use Rattle.text.specs.Text.{Bytes, parts, part, piece_length}
use Rattle.text.specs.Cursor.{end_from, piece_from}
use Rattle.text.specs.Code.Places.{parts_from, AtPart}
use Rattle.text.proofs.Pieces.{piece-le, parts-step, piece-taken, piece-length, piece-ends}

module _ (sep : ℕ) (t : Bytes) where
  end-le : (at : ℕ) → at ≤ length t → end_from sep t at ≤ length t
  end-le at h = omega (arith, piece-le sep (drop at t), length-drop at t)

  none_from : (at : ℕ) → length t < at → parts_from sep t at ≡ []
  none_from at h = rw (lt-leb at (length t) h)

  -- one part, and the others
  step : (at : ℕ) → at ≤ length t → parts_from sep t at ≡ piece_from sep t at ∷ parts_from sep t (end_from sep t at + 1)
  step at h =
      rw (le-leb at (length t) h, parts-step sep (drop at t))
      (ap (λ (x : List Bytes). piece_from sep t at ∷ x) (go (dec_le (end_from sep t at + 1) (length t))))
    where
      go : Dec (end_from sep t at + 1 ≤ length t)
          → cond (ltb (piece_length sep (drop at t)) (length (drop at t))) (parts sep (drop (piece_length sep (drop at t) + 1) (drop at t))) []
          ≡ parts_from sep t (end_from sep t at + 1)
      go (yes l) =
          let q : at + (piece_length sep (drop at t) + 1) ≡ end_from sep t at + 1 = omega arith in
          rw (
            le-leb (end_from sep t at + 1) (length t) l,
            lt-ltb (piece_length sep (drop at t)) (length (drop at t)) (omega (arith, length-drop at t)),
            drop-drop (piece_length sep (drop at t) + 1) at t,
            q,
          )
      go (no l) =
          rw (
            lt-leb (end_from sep t at + 1) (length t) (omega arith),
            le-ltb (piece_length sep (drop at t)) (length (drop at t)) (omega (arith, length-drop at t)),
          )

  -- the first of the parts from a place on, and the others
  heads : (at : ℕ) → get_or (parts_from sep t at) 0 [] ≡ piece_from sep t at
  heads at = go (dec_le at (length t))
    where
      go : Dec (at ≤ length t) → get_or (parts_from sep t at) 0 [] ≡ piece_from sep t at
      go (yes l) = ap (λ (x : List Bytes). get_or x 0 []) (step at l)
      go (no l) =
          ap (λ (x : List Bytes). get_or x 0 []) (none_from at (omega arith))
          ∙ rw (drop_of_length-le t {i = at} (omega arith), take-nil)

  tails : (at : ℕ) → drop 1 (parts_from sep t at) ≡ parts_from sep t (end_from sep t at + 1)
  tails at = go (dec_le at (length t))
    where
      go : Dec (at ≤ length t) → drop 1 (parts_from sep t at) ≡ parts_from sep t (end_from sep t at + 1)
      go (yes l) = ap (λ (x : List Bytes). drop 1 x) (step at l)
      go (no l) =
          ap (λ (x : List Bytes). drop 1 x) (none_from at (omega arith)) ∙ sym (none_from (end_from sep t at + 1) (omega arith))

  pub first-start : AtPart sep t 0 0
  first-start = record { rest = rw (le-leb 0 (length t) (omega arith)) }

  -- ---- as a cursor goes: part k starts at s and ends at e, and the next one starts after that
  pub this-part : (k : ℕ) {s : ℕ} → AtPart sep t k s → piece_from sep t s ≡ part sep k t
  this-part k {s} here = sym (heads s) ∙ rw (here.rest, get_or-drop k (parts sep t) 0 [], add-zero k)

  module _ (k : ℕ) {s e : ℕ} (here : AtPart sep t k s) (end : e ≡ end_from sep t s) where
    pub start-after : AtPart sep t (suc k) (e + 1)
    start-after =
        let z : k + 1 ≡ suc k = add-one k in
        record { rest = rw end (sym (tails s) ∙ rw (here.rest, drop-drop 1 k (parts sep t), z)) }

    pub part-there : take (e - s) (drop s t) ≡ part sep k t
    part-there = piece-taken sep t s e end ∙ this-part k here

    pub part-size : length (part sep k t) ≡ e - s
    part-size = ap length (sym (this-part k here)) ∙ piece-length sep t s ∙ omega arith

    -- the text ends with part k exactly if there are k + 1
    pub last-part : eqb e (length t) ≡ eqb (length (parts sep t)) (suc k)
    last-part = go (dec_le s (length t)) (dec_le (e + 1) (length t))
      where
        many : length (parts_from sep t s) ≡ length (parts sep t) - k
        many = ap length here.rest ∙ length-drop k (parts sep t)

        others : length (parts_from sep t (e + 1)) ≡ length (parts_from sep t s) - 1
        others = rw end (sym (ap length (tails s)) ∙ length-drop 1 (parts_from sep t s))

        go : Dec (s ≤ length t) → Dec (e + 1 ≤ length t) → eqb e (length t) ≡ eqb (length (parts sep t)) (suc k)
        go (no l) d =
            rw (
              ne_eqb e (length t) (λ x. omega arith),
              ne_eqb (length (parts sep t)) (suc k) (λ x. omega (arith, many, ap length (none_from s (omega arith)))),
            )
        go (yes l) (yes m) =
            rw (
              ne_eqb e (length t) (λ x. omega arith),
              ne_eqb (length (parts sep t)) (suc k) (λ x. omega (arith, many, others, ap length (step (e + 1) m))),
            )
        go (yes l) (no m) =
            rw (
              eq-eqb e (length t) (omega (arith, end-le s l)),
              eq-eqb (length (parts sep t)) (suc k)
                  (omega (arith, many, others, ap length (step s l), ap length (none_from (e + 1) (omega arith)))),
            )

    pub all_there : e ≡ length t → length (parts sep t) ≡ suc k
    all_there h = eqb-true (length (parts sep t)) (suc k) (sym last-part ∙ eq-eqb e (length t) h)

    pub more-there : (e ≡ length t → ⊥) → length (parts sep t) ≡ suc k → ⊥
    more-there h x = h (eqb-true e (length t) (last-part ∙ eq-eqb (length (parts sep t)) (suc k) x))

  -- the same where the part was taken as a piece
  pub past-part : (k : ℕ) {s : ℕ} {piece : Bytes} → AtPart sep t k s → piece ≡ piece_from sep t s → AtPart sep t (suc k) (s + length piece + 1)
  past-part k {s} here is = start-after k here (piece-ends sep t s (ap length is))
