-- A refusal from a start on. Moving keeps the number and which of two refuses first, and a place that fits is the sum.
-- Assumes nothing.
use Rattle.std.proofs.Common.{◌≡◌, ℕ, ◌+◌, ◌^◌, ◌<◌, ◌≤◌, Bool, true, false, cond, eqb, refl, add_assoc, mod-eq_of_lt, arith, eq-eqb, ne_eqb}
use Rattle.answers.specs.declared.Refusal.{Refusal}
use Rattle.answers.specs.Refusals.{refusal}
use Rattle.answers.specs.Checks.{check, otherwise, moved, moved_round}

module _ (start : ℕ) where
  pub moved-clear : (r : Refusal) → r.number ≡ 0 → moved start r ≡ r
  moved-clear r h = rw (eq-eqb r.number 0 h)

  pub moved-number : (r : Refusal) → (moved start r).number ≡ r.number
  moved-number r = go (eqb r.number 0)
    where
      go : (t : Bool) → (cond t r (refusal r.number (start + r.place))).number ≡ r.number
      go true = refl
      go false = refl

  pub moved-place : (most : ℕ) (r : Refusal) → r.place ≤ most → (moved start r).place ≤ start + most
  moved-place most r h = go (eqb r.number 0)
    where
      go : (t : Bool) → (cond t r (refusal r.number (start + r.place))).place ≤ start + most
      go true = omega arith
      go false = omega arith

  -- as code moves it
  pub moved-code : {m : Refusal} (r : Refusal) → m ≡ moved_round start r → start + r.place < 2 ^ 64 → m ≡ moved start r
  moved-code r e h = rw (← (mod-eq_of_lt h)) e

  pub moved-otherwise : (r s : Refusal) → moved start (otherwise r s) ≡ otherwise (moved start r) (moved start s)
  moved-otherwise r s = go (eqb r.number 0) refl
    where
      go : (t : Bool) → eqb r.number 0 ≡ t → moved start (otherwise r s) ≡ otherwise (moved start r) (moved start s)
      go true e = rw e (rw e)
      go false e = rw e (rw e)

  pub moved-check : (t : Bool) (number s : ℕ) → 0 < number → moved start (check t number s) ≡ check t number (start + s)
  moved-check true number s some = rw (ne_eqb number 0 (λ h. omega arith))
  moved-check false number s some = refl

  pub moved_twice : (s : ℕ) (r : Refusal) → moved (start + s) r ≡ moved start (moved s r)
  moved_twice s r = go (eqb r.number 0) refl
    where
      go : (t : Bool) → eqb r.number 0 ≡ t
          → cond t r (refusal r.number (start + s + r.place)) ≡ moved start (cond t r (refusal r.number (s + r.place)))
      go true e = rw e
      go false e = rw (e, add_assoc)
