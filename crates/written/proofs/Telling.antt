-- What code that writes tells, by the arm of a `?`: an error says what the definition is refused with.
-- Assumes nothing.
use Rattle.std.proofs.Common.{◌≡◌, ℕ, Result, Ok, Err, ap, sym, ◌∙◌}
use Rattle.std.specs.Prelude.{IsErrAnd}
use Rattle.answers.specs.declared.Refusal.{Refusal}
use Rattle.answers.specs.declared.Refused.{Refused}
use Rattle.answers.specs.Told.{told}
use Rattle.answers.proofs.Told.{refuses}
use Rattle.written.specs.declared.Written.{Written}
use Rattle.written.specs.Writing.{refused_writing, told_writing}

pub refused-told : (r : Result ℕ Refused) (e : Refused) → IsErrAnd r (λ y. y ≡ e) → {x : Refusal} {w : Written}
    → told (Err e) ≡ x → refused_writing x ≡ w → told_writing r ≡ w
unfolding told told_writing
refused-told (Ok n) e h says then = absurd h
refused-told (Err y) e h says then = rw h (ap refused_writing says ∙ then)

-- and its number is 0 exactly where there is none
module _ {r : Result ℕ Refused} {w : Written} (says : told_writing r ≡ w) where
  own : {q : Result ℕ Refused} → r ≡ q → told_writing q ≡ w
  own e = rw (← e) says

  pub ok-clear : {bytes : ℕ} → r ≡ Ok bytes → w.number ≡ 0
  unfolding told_writing
  ok-clear e = ap (λ (w : Written). w.number) (sym (own e))

  pub err-some : {e : Refused} → r ≡ Err e → w.number ≡ 0 → ⊥
  unfolding told_writing
  err-some {e = e} h n = refuses e (ap (λ (w : Written). w.number) (own h) ∙ n)
