-- A text made of lines that hold no newline has these lines; and a text is its parts with the separators between them.
-- Assumes nothing.
use mathlib.Core.Path.{◌≡◌, refl, ap, sym, ◌∙◌}
use mathlib.Core.Bool.{Bool, true, false, cond}
use mathlib.Core.List.{List, [], ◌∷◌, ◌++◌, append_assoc}
use Prim.Native.Nat.{ℕ, zero, suc, ◌<◌}
use native.Mathlib.Omega.{arith}
use lib.ListN.{length, get_or}
use lib.Dec.{eqb}
use borrow.Author.Tests.{eqb-true}
use Rattle.answers.specs.Runs.{over, join}
use Rattle.text.specs.Text.{Bytes, newline, onto, cut, lines, parts, part, joined}
use Rattle.text.proofs.Pieces.{parts-step}

-- no byte of it is the separator
abbrev pub Free : ℕ → Bytes → Type 0
Free sep [] = Unit {0}
Free sep (b ∷ t) = (eqb b sep ≡ false) × Free sep t

pub cut-ended : (sep : ℕ) (rest : List Bytes) (xs t : Bytes) → Free sep xs → eqb sep sep ≡ true → cut sep rest (xs ++ sep ∷ t) ≡ xs ∷ cut sep rest t
unfolding cut
cut-ended sep rest [] t h e = rw e
cut-ended sep rest (b ∷ xs) t h e = rw (h.0, cut-ended sep rest xs t h.1 e)

pub lines-joined : (row : ℕ → Bytes) → ((i : ℕ) → Free newline (row i)) → (k m : ℕ)
    → lines (join (λ i. row i ++ newline ∷ []) k m) ≡ join (λ i. row i ∷ []) k m
unfolding over cut
lines-joined row free k zero = refl
lines-joined row free k (suc m) =
    ap (λ (x : Bytes). lines x) (append_assoc (row k) (newline ∷ []) (join (λ i. row i ++ newline ∷ []) (suc k) m))
    ∙ cut-ended newline [] (row k) (join (λ i. row i ++ newline ∷ []) (suc k) m) (free k) refl
    ∙ ap (λ (x : List Bytes). row k ∷ x) (lines-joined row free (suc k) m)

-- a text is its parts joined again; so a text of two parts is the first, the separator and the second
module _ (sep : ℕ) where
  joined-cons : (a : Bytes) (ps : List Bytes) → 0 < length ps → joined sep (a ∷ ps) ≡ a ++ sep ∷ joined sep ps
  joined-cons a [] h = absurd (omega arith)
  joined-cons a (p ∷ ps) h = refl

  joined-onto : (b : ℕ) (ps : List Bytes) → 0 < length ps → joined sep (onto b ps) ≡ b ∷ joined sep ps
  joined-onto b [] h = absurd (omega arith)
  joined-onto b (p ∷ []) h = refl
  joined-onto b (p ∷ q ∷ ps) h = refl

  some-parts : (t : Bytes) → 0 < length (parts sep t)
  some-parts t = rw (parts-step sep t) (omega arith)

  pub joined_back : (t : Bytes) → joined sep (parts sep t) ≡ t
  unfolding cut
  joined_back [] = refl
  joined_back (b ∷ t) = go (eqb b sep) refl (joined_back t)
    where
      go : (e : Bool) → eqb b sep ≡ e → joined sep (parts sep t) ≡ t → joined sep (cond e ([] ∷ parts sep t) (onto b (parts sep t))) ≡ b ∷ t
      go true e h =
          let z : sep ≡ b = sym (eqb-true b sep e) in
          joined-cons [] (parts sep t) (some-parts t) ∙ rw (h, z)
      go false e h = joined-onto b (parts sep t) (some-parts t) ∙ rw h

  two : (ps : List Bytes) → length ps ≡ 2 → joined sep ps ≡ get_or ps 0 [] ++ sep ∷ get_or ps 1 []
  two [] h = absurd (omega arith)
  two (p ∷ []) h = absurd (omega arith)
  two (p ∷ q ∷ []) h = refl
  two (p ∷ q ∷ r ∷ ps) h = absurd (omega arith)

  pub two-parts : (t : Bytes) → length (parts sep t) ≡ 2 → t ≡ part sep 0 t ++ sep ∷ part sep 1 t
  two-parts t h = sym (joined_back t) ∙ two (parts sep t) h
