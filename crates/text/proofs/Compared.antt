-- Two texts are compared byte by byte, as `==` does; and `same` says that they are equal.
-- Assumes nothing.
use mathlib.Core.Path.{◌≡◌, refl}
use mathlib.Core.Bool.{Bool, true, false, ◌&&◌, false≢true}
use mathlib.Core.List.{[], ◌∷◌}
use lib.Dec.{eqb}
use lib.Pointwise.{pointwise}
use borrow.Author.Tests.{eq-eqb, eqb-true}
use Rattle.text.specs.Text.{Bytes, same}

pub same_refl : (s : Bytes) → same s s ≡ true
unfolding same
same_refl [] = refl
same_refl (a ∷ s) = rw (eq-eqb a a refl) (same_refl s)

pub same_true : (s t : Bytes) → same s t ≡ true → s ≡ t
unfolding same
same_true [] [] h = refl
same_true [] (b ∷ t) h = absurd (false≢true h)
same_true (a ∷ s) [] h = absurd (false≢true h)
same_true (a ∷ s) (b ∷ t) h = go (eqb a b) refl (same_true s t) h
  where
    go : (e : Bool) → eqb a b ≡ e → (same s t ≡ true → s ≡ t) → (e && same s t) ≡ true → a ∷ s ≡ b ∷ t
    go true e f h = rw (eqb-true a b e, f h)
    go false e f h = absurd (false≢true h)

-- as `==` compares them
pub pointwise_same : (s t : Bytes) → pointwise eqb s t ≡ same s t
unfolding same
pointwise_same [] [] = refl
pointwise_same [] (b ∷ t) = refl
pointwise_same (a ∷ s) [] = refl
pointwise_same (a ∷ s) (b ∷ t) = rw (pointwise_same s t)
