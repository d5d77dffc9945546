-- What `?` hands on is the error that it met; a loop goes on past a check that is right, or stops at one that refuses.
-- Assumes nothing.
use Rattle.std.proofs.Common.{◌≡◌, ℕ, ◌+◌, ◌-◌, ◌<◌, Result, Ok, Err, refl, sym, ◌∙◌}
use Rattle.std.specs.Result.{IsErrAnd}
use Rattle.std.proofs.lemmas.Result.{err_from_is_err_and}
use Rattle.answers.specs.declared.Refusal.{Refusal}
use Rattle.answers.specs.declared.Refused.{Refused}
use Rattle.answers.specs.Checks.{each}
use Rattle.answers.specs.Told.{told}
use Rattle.answers.proofs.Checks.{past-left, stop-left}
use Rattle.answers.proofs.Told.{told-err, ok-clear, err-some}

pub left : (r : Result Unit Refused) (e : Refused) → IsErrAnd r (λ y. y ≡ e) → told r ≡ told (Err e)
left r e h = let p = err_from_is_err_and r h in rw (p.1, p.2)

-- over n checks, at i
module _ (g : ℕ → Refusal) (i n : ℕ) (r : Result Unit Refused) (inside : i < n) (says : told r ≡ g i) where
  pub past-told : {u : Unit} → r ≡ Ok u → each g i (n - i) ≡ each g (i + 1) (n - (i + 1))
  past-told e = past-left g i n (g i) inside refl (ok-clear says e)

  pub stop-told : {e : Refused} → r ≡ Err e → told (Err e) ≡ each g i (n - i)
  stop-told e = told-err says e ∙ sym (stop-left g i n (g i) inside refl (err-some says e))
