-- A text is gone through piece by piece: the first piece, and the text after its separator.
-- Assumes nothing.
use mathlib.Core.Path.{◌≡◌, refl, ap}
use mathlib.Core.Bool.{Bool, true, false, cond}
use mathlib.Core.List.{[], ◌∷◌}
use Prim.Native.Nat.{ℕ, suc, ◌+◌, ◌-◌, ◌≤◌, ◌<◌, max}
use native.Mathlib.Decide.{dec_le}
use native.Mathlib.Numerals.{add-one}
use native.Mathlib.Omega.{arith}
use lib.Dec.{eqb, ltb, leb-suc-suc}
use lib.ListN.{length, take, drop, get_or, length-take, length-drop, drop_of_length-le}
use lib.Seq.{drop-cons, drop-drop}
use borrow.Author.Tests.{eq-eqb, ne_eqb, lt-ltb}
use Rattle.text.specs.Text.{Bytes, newline, onto, cut, lines, parts, piece_length}
use Rattle.text.specs.Cursor.{end_from, piece_from}

pub piece-le : (sep : ℕ) (t : Bytes) → piece_length sep t ≤ length t
unfolding piece_length
piece-le sep [] = omega arith
piece-le sep (b ∷ t) = go (eqb b sep) (piece-le sep t)
  where
    go : (e : Bool) → piece_length sep t ≤ length t → cond e 0 (suc (piece_length sep t)) ≤ suc (length t)
    go true h = omega arith
    go false h = omega arith

-- ---- as a loop goes
module _ (sep : ℕ) (t : Bytes) (e : ℕ) where
  pub piece-on : e < length t → (get_or t e 0 ≡ sep → ⊥) → piece_length sep (drop e t) ≡ 1 + piece_length sep (drop (e + 1) t)
  unfolding piece_length
  piece-on l h = rw (drop-cons t e 0 l, ne_eqb (get_or t e 0) sep h, add-one e) (omega arith)

  pub piece-stop : e < length t → get_or t e 0 ≡ sep → piece_length sep (drop e t) ≡ 0
  unfolding piece_length
  piece-stop l h = rw (drop-cons t e 0 l, eq-eqb (get_or t e 0) sep h)

  pub piece-over : length t ≤ e → piece_length sep (drop e t) ≡ 0
  unfolding piece_length
  piece-over h = rw (drop_of_length-le t {i = e} h)

-- a loop from a place on, to the end or past it
pub piece-last : (sep : ℕ) (t : Bytes) (from end : ℕ) → (from ≤ length t → end ≤ length t) → length t ≤ end
    → from + piece_length sep (drop from t) ≡ end + piece_length sep (drop end t)
    → max from (length t) ≡ from + piece_length sep (drop from t)
piece-last sep t from end h l e = go (dec_le from (length t))
  where
    go : Dec (from ≤ length t) → max from (length t) ≡ from + piece_length sep (drop from t)
    go (yes k) = omega (arith, h k, e, piece-over sep t end l)
    go (no k) = omega (arith, piece-over sep t from (omega arith))

-- ---- the first line and the lines after it; the first part and the parts after it
pub lines_step : (b : ℕ) (t : Bytes) → lines (b ∷ t) ≡ take (piece_length newline (b ∷ t)) (b ∷ t) ∷ lines (drop (piece_length newline (b ∷ t)) t)
unfolding cut piece_length
lines_step b [] = go (eqb b newline)
  where
    go : (e : Bool) → cond e ([] ∷ []) ((b ∷ []) ∷ []) ≡ take (cond e 0 1) (b ∷ []) ∷ lines (drop (cond e 0 1) [])
    go true = refl
    go false = refl
lines_step b (c ∷ t) = go (eqb b newline) (lines_step c t)
  where
    go : (e : Bool) → lines (c ∷ t) ≡ take (piece_length newline (c ∷ t)) (c ∷ t) ∷ lines (drop (piece_length newline (c ∷ t)) t)
        → cond e ([] ∷ lines (c ∷ t)) (onto b (lines (c ∷ t)))
        ≡ take (cond e 0 (suc (piece_length newline (c ∷ t)))) (b ∷ c ∷ t) ∷ lines (drop (cond e 0 (suc (piece_length newline (c ∷ t)))) (c ∷ t))
    go true h = refl
    go false h = ap (onto b) h

pub parts-step : (sep : ℕ) (t : Bytes)
    → parts sep t ≡ take (piece_length sep t) t ∷ cond (ltb (piece_length sep t) (length t)) (parts sep (drop (piece_length sep t + 1) t)) []
unfolding cut piece_length
parts-step sep [] = refl
parts-step sep (b ∷ t) = go (eqb b sep) (parts-step sep t)
  where
    go : (e : Bool)
        → parts sep t ≡ take (piece_length sep t) t ∷ cond (ltb (piece_length sep t) (length t)) (parts sep (drop (piece_length sep t + 1) t)) []
        → cond e ([] ∷ parts sep t) (onto b (parts sep t))
        ≡ take (cond e 0 (suc (piece_length sep t))) (b ∷ t)
        ∷ cond (ltb (cond e 0 (suc (piece_length sep t))) (suc (length t))) (parts sep (drop (cond e 0 (suc (piece_length sep t)) + 1) (b ∷ t))) []
    go true h = rw (lt-ltb 0 (suc (length t)) (omega arith))
    go false h =
        let z : suc (piece_length sep t) + 1 ≡ suc (piece_length sep t + 1) = omega arith in
        rw (z, leb-suc-suc (suc (piece_length sep t)) (length t)) (ap (onto b) h)

-- the line that starts at a place ends at e, and the next one starts after that
pub line-there : (t : Bytes) (at e : ℕ) → at < length t → e ≡ at + piece_length newline (drop at t)
    → lines (drop at t) ≡ take (e - at) (drop at t) ∷ lines (drop (e + 1) t)
line-there t at e h end =
    let k : piece_length newline (get_or t at 0 ∷ drop (suc at) t) ≡ e - at = rw (← drop-cons t at 0 h) (omega arith) in
    let z : suc at + (e - at) ≡ e + 1 = omega arith in
    let s = rw (k, drop-drop (e - at) (suc at) t, z) at (lines_step (get_or t at 0) (drop (suc at) t)) in
    rw (← drop-cons t at 0 h) at s

-- ---- the piece from a place, which ends at e
module _ (sep : ℕ) (t : Bytes) (at : ℕ) where
  pub piece-taken : (e : ℕ) → e ≡ end_from sep t at → take (e - at) (drop at t) ≡ piece_from sep t at
  piece-taken e end =
      let z : e - at ≡ piece_length sep (drop at t) = omega arith in
      rw z

  pub piece-length : length (piece_from sep t at) ≡ piece_length sep (drop at t)
  piece-length = simp length-take (omega (arith, piece-le sep (drop at t)))

  pub piece_inside : length (piece_from sep t at) ≤ length t - at
  piece_inside = omega (arith, piece-length, piece-le sep (drop at t), length-drop at t)

  -- so it ends as many bytes further
  pub piece-ends : {size : ℕ} → size ≡ length (piece_from sep t at) → at + size ≡ end_from sep t at
  piece-ends e = omega (arith, piece-length)
