-- A list of h k, h (k + 1), .. , one place each (`row_at`); and one of so many places, of which the first ones are
-- filled: as a loop fills it, one place a turn.
-- Assumes nothing.
use Rattle.std.proofs.Common.{◌≡◌, ℕ, zero, suc, ◌+◌, ◌<◌, ◌≤◌, cond, ltb, ◌⊎◌, [], ◌∷◌, length, get_or, set, replicate, sym, refl, ap, ◌∙◌, inl, inr, add-zero, add-suc, suc-add, eq-or-lt_of_le, zero-add, arith, length-set, get_or-set_other, get_or-set_same, ext_get_or, le-ltb, lt-ltb}
use native.Mathlib.Decide.{dec_le}
use lib.ListN.{length-replicate, get_or-replicate}
use Rattle.answers.specs.Runs.{over, join, filled}

module _ {A : Type 0} where
  module _ (h : ℕ → A) where
    pub row-length : (k m : ℕ) → length (join (λ i. h i ∷ []) k m) ≡ m
    unfolding over
    row-length k zero = refl
    row-length k (suc m) = ap suc (row-length (suc k) m)

    pub row_at : (k m i : ℕ) (d : A) → i < m → get_or (join (λ j. h j ∷ []) k m) i d ≡ h (k + i)
    unfolding over
    row_at k zero i d l = absurd (omega arith)
    row_at k (suc m) zero d l = rw add-zero
    row_at k (suc m) (suc i) d l = row_at (suc k) m i d (omega arith) ∙ rw (suc-add, add-suc)

  module _ (g : ℕ → A) (z : A) where
    pub filled-length : (m size : ℕ) → length (filled g z m size) ≡ size
    filled-length m size = row-length (λ i. cond (ltb i m) (g i) z) 0 size

    pub filled_at : (m size i : ℕ) (d : A) → i < size → get_or (filled g z m size) i d ≡ cond (ltb i m) (g i) z
    filled_at m size i d l = row_at (λ j. cond (ltb j m) (g j) z) 0 size i d l ∙ rw zero-add

    -- none of them
    pub filled_none : (size : ℕ) → filled g z 0 size ≡ replicate size z
    filled_none size =
        ext_get_or z (filled g z 0 size) (replicate size z) (filled-length 0 size ∙ sym (length-replicate size z))
        (λ i l.
        let s : i < size = rw (filled-length 0 size) at l in
        filled_at 0 size i z s ∙ rw (le-ltb i 0 (omega arith)) (sym (get_or-replicate size i z z s)))

    -- one more
    pub filled_more : (m size : ℕ) → m < size → set (filled g z m size) m (g m) ≡ filled g z (m + 1) size
    filled_more m size h =
        ext_get_or z (set (filled g z m size) m (g m)) (filled g z (m + 1) size)
        (length-set (filled g z m size) m (g m) ∙ filled-length m size ∙ sym (filled-length (m + 1) size))
        (λ i l.
        let s : i < size = rw (length-set, filled-length m size) at l in
        go i s (dec_le i m) ∙ sym (filled_at (m + 1) size i z s))
      where
        other : (i : ℕ) → i < size → (i ≡ m → ⊥) → get_or (set (filled g z m size) m (g m)) i z ≡ cond (ltb i m) (g i) z
        other i s n = get_or-set_other (filled g z m size) m i (g m) z n ∙ filled_at m size i z s

        below : (i : ℕ) → i < size → (i ≡ m) ⊎ (i < m) → get_or (set (filled g z m size) m (g m)) i z ≡ g i
        below i s (inl e) = rw e (get_or-set_same (filled g z m size) m (g m) z (rw (filled-length m size) h))
        below i s (inr l) = other i s (λ e. omega arith) ∙ rw (lt-ltb i m l)

        go : (i : ℕ) → i < size → Dec (i ≤ m) → get_or (set (filled g z m size) m (g m)) i z ≡ cond (ltb i (m + 1)) (g i) z
        go i s (yes l) = rw (lt-ltb i (m + 1) (omega arith)) (below i s (eq-or-lt_of_le l))
        go i s (no n) = rw (le-ltb i (m + 1) (omega arith)) (other i s (λ e. omega arith) ∙ rw (le-ltb i m (omega arith)))
