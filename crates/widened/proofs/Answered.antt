-- Where something was refused before, that is answered and nothing is written (`refused`, `kept`); else the room
-- decides (`short`, `short-kept`, `told`, `laid_out`). What is answered where there is room tells the two apart
-- (`none_before`, `same-refused`).
-- Assumes nothing.
use mathlib.Core.Path.{◌≡◌, refl, sym, ap, ◌∙◌}
use mathlib.Core.Bool.{Bool, true, false}
use mathlib.Core.List.{List, ◌++◌}
use Prim.Native.Nat.{ℕ, ◌≤◌, ◌<◌}
use native.Mathlib.Omega.{arith}
use lib.Dec.{eqb}
use lib.ListN.{length, drop}
use borrow.Author.Tests.{eq-eqb, ne_eqb, eqb-true, eqb-false, lt-ltb, le-ltb}
use Rattle.answers.specs.Refusals as refusals
use Rattle.widened.specs.declared.Converted.{Converted}
use Rattle.widened.specs.Answered.{answered, laid_in}

module _ (number place which : ℕ) (written : List ℕ) where
  pub nothing-laid : (out : List ℕ) → ((answered number place which written (length out)).number ≡ 0 → ⊥) → laid_in number place which written out ≡ out
  unfolding laid_in
  nothing-laid out h = rw (ne_eqb (answered number place which written (length out)).number 0 h)

  module _ (h : number ≡ 0 → ⊥) where
    pub refused : (room : ℕ) → answered number place which written room ≡ record { number = number; place = place; which = which; length = 0 }
    unfolding answered
    refused room = rw (ne_eqb number 0 h)

    pub kept : (out : List ℕ) → laid_in number place which written out ≡ out
    kept out = nothing-laid out (rw (refused (length out)) h)

  module _ (h : number ≡ 0) where
    pub short : (room : ℕ) → room < length written
        → answered number place which written room ≡ record { number = refusals.room; place = 0; which = 0; length = 0 }
    unfolding answered
    short room l = rw (eq-eqb number 0 h, lt-ltb room (length written) l)

    pub short-kept : (out : List ℕ) → length out < length written → laid_in number place which written out ≡ out
    short-kept out l = nothing-laid out (rw (short (length out) l) (λ z. omega arith))

    pub told : (room : ℕ) → length written ≤ room → answered number place which written room ≡ record { number = 0; place = 0; which = 0; length = length written }
    unfolding answered
    told room l = rw (eq-eqb number 0 h, le-ltb room (length written) l)

    pub laid_out : (out : List ℕ) → length written ≤ length out → laid_in number place which written out ≡ written ++ drop (length written) out
    unfolding laid_in
    laid_out out l = rw (told (length out) l)

  -- what is not refused was not refused before
  pub none_before : (room : ℕ) → (answered number place which written room).number ≡ 0 → number ≡ 0
  none_before room h = go (eqb number 0) refl
    where
      go : (t : Bool) → eqb number 0 ≡ t → number ≡ 0
      go true e = eqb-true number 0 e
      go false e = sym (ap (λ (c : Converted). c.number) (refused (eqb-false number 0 e) room)) ∙ h

  -- by what is answered where there is room
  abbrev roomy : Converted
  roomy = answered number place which written (length written)

  module _ (h : roomy.number ≡ 0 → ⊥) where
    refuses : number ≡ 0 → ⊥
    refuses z = h (ap (λ (c : Converted). c.number) (told z (length written) (omega arith)))

    pub same-refused : (room : ℕ) → roomy ≡ answered number place which written room
    same-refused room = refused refuses (length written) ∙ sym (refused refuses room)

    pub refused-kept : (out : List ℕ) → laid_in number place which written out ≡ out
    refused-kept = kept refuses
