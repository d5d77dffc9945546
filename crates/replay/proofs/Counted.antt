-- How many lines does a text have? As many as newlines, and one more where bytes follow the last of them.
-- Assumes nothing.
use mathlib.Core.Path.{◌≡◌, refl, ap, sym, ◌∙◌}
use mathlib.Core.Bool.{Bool, true, false, cond}
use mathlib.Core.List.{List, [], ◌∷◌}
use Prim.Native.Nat.{ℕ, suc, ◌+◌, ◌-◌, ◌≤◌, ◌<◌}
use native.Mathlib.Numerals.{add-one}
use native.Mathlib.Omega.{arith}
use lib.Dec.{eqb}
use mir.Val.{bool_byte}
use lib.ListN.{length, get_or, drop, drop_of_length-le}
use lib.Seq.{drop-cons}
use borrow.Author.Tests.{eq-eqb, ne_eqb}
use Rattle.text.specs.Text.{Bytes, newline, onto, cut, lines}
use Rattle.replay.specs.Code.Reading.{ends_line, newlines}

-- ---- as a loop goes
module _ (t : Bytes) (i : ℕ) where
  pub newlines-on : i < length t → newlines (drop i t) ≡ ends_line (get_or t i 0) + newlines (drop (i + 1) t)
  unfolding newlines
  newlines-on h = rw (drop-cons t i 0 h, add-one i)

  pub newlines-end : length t ≤ i → newlines (drop i t) ≡ 0
  unfolding newlines
  newlines-end h = rw (drop_of_length-le t {i = i} h)

-- a test as a number
pub as_number : (b : ℕ) → bool_byte (eqb b newline) ≡ ends_line b
as_number b = go (eqb b newline)
  where
    go : (e : Bool) → bool_byte e ≡ cond e 1 0
    go true = refl
    go false = refl

pub ends-most : (b : ℕ) → ends_line b ≤ 1
ends-most b = go (eqb b newline)
  where
    go : (e : Bool) → cond e 1 0 ≤ 1
    go true = omega arith
    go false = omega arith

-- ---- lines
abbrev pub last_of : Bytes → ℕ
last_of t = get_or t (length t - 1) 0

onto-some : (b : ℕ) (ps : List Bytes) → 0 < length ps → length (onto b ps) ≡ length ps
onto-some b [] h = absurd (omega arith)
onto-some b (p ∷ ps) h = refl

some-line : (b : ℕ) (t : Bytes) → 0 < length (lines (b ∷ t))
unfolding cut
some-line b t = go (eqb b newline) (lines t)
  where
    go : (e : Bool) (ls : List Bytes) → 0 < length (cond e ([] ∷ ls) (onto b ls))
    go true ls = omega arith
    go false [] = omega arith
    go false (l ∷ ls) = omega arith

-- bytes after the last newline
abbrev tail_of : ℕ → ℕ
tail_of b = cond (eqb b newline) 0 1

lines-counted : (b : ℕ) (t : Bytes) → length (lines (b ∷ t)) ≡ newlines (b ∷ t) + tail_of (last_of (b ∷ t))
unfolding cut newlines
lines-counted b [] = go (eqb b newline)
  where
    go : (e : Bool) → length (cond e ([] ∷ []) (onto b [])) ≡ cond e 1 0 + 0 + cond e 0 1
    go true = refl
    go false = refl
lines-counted b (c ∷ t) =
    go (eqb b newline) (lines-counted c t) ∙ ap (λ (x : ℕ). ends_line b + newlines (c ∷ t) + tail_of x) (sym same)
  where
    same : get_or (b ∷ c ∷ t) (length (b ∷ c ∷ t) - 1) 0 ≡ last_of (c ∷ t)
    same =
        let p : suc (suc (length t)) - 1 ≡ suc (length t) = omega arith in
        let q : suc (length t) - 1 ≡ length t = omega arith in
        rw (p, q)

    go : (e : Bool) → length (lines (c ∷ t)) ≡ newlines (c ∷ t) + tail_of (last_of (c ∷ t))
        → length (cond e ([] ∷ lines (c ∷ t)) (onto b (lines (c ∷ t)))) ≡ cond e 1 0 + newlines (c ∷ t) + tail_of (last_of (c ∷ t))
    go true h = omega (arith, h)
    go false h = omega (arith, h, onto-some b (lines (c ∷ t)) (some-line c t))

-- the last byte says which
module _ (t : Bytes) (some : 0 < length t) where
  counted : length (lines t) ≡ newlines t + tail_of (last_of t)
  counted = go t some
    where
      go : (t : Bytes) → 0 < length t → length (lines t) ≡ newlines t + tail_of (last_of t)
      go [] h = absurd (omega arith)
      go (b ∷ t) h = lines-counted b t

  pub counted-ended : last_of t ≡ newline → newlines t ≡ length (lines t)
  counted-ended e =
      let z : tail_of (last_of t) ≡ 0 = rw (eq-eqb (last_of t) newline e) in
      omega (arith, counted, z)

  pub counted-tail : (last_of t ≡ newline → ⊥) → newlines t + 1 ≡ length (lines t)
  counted-tail e =
      let z : tail_of (last_of t) ≡ 1 = rw (ne_eqb (last_of t) newline e) in
      omega (arith, counted, z)
