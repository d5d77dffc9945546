-- What code that checks one body tells, by the arm of a `?` or a `match`: an error refuses, and n is told where none does.
-- Assumes nothing.
use Rattle.std.proofs.Common.{◌≡◌, ℕ, Result, Ok, Err, ap, sym, ◌∙◌, ne_eqb}
use Rattle.std.specs.Prelude.{IsErrAnd, MatchResult}
use Rattle.answers.specs.declared.Refusal.{Refusal}
use Rattle.answers.specs.declared.Refused.{Refused}
use Rattle.answers.specs.Told.{told, said, number_of}
use Rattle.answers.proofs.Told.{refuses, told-ok}
use Rattle.tile_metadata.specs.declared.TileValues.{TileValues}
use Rattle.tile_metadata.specs.Bodies.{answered, told_values, unless_refused}

-- an error's own answer
pub refused-values : (e : Refused) (n : ℕ) → told_values (Err e) ≡ answered n (said e)
unfolding told_values
refused-values e n = rw (ne_eqb (number_of e.reason) 0 (refuses e))

-- the exit of a `?`, and past it
pub values-exit : (r : Result ℕ Refused) (e : Refused) → IsErrAnd r (λ y. y ≡ e) → (n : ℕ) {x : Refusal} → told (Err e) ≡ x
    → told_values r ≡ answered n x
unfolding told
values-exit (Ok m) e h n says = absurd h
values-exit (Err y) e h n says = rw h (refused-values e n ∙ ap (answered n) says)

pub values-told : {r : Result Unit Refused} {u : Unit} (n : ℕ) {x : Refusal} → told r ≡ x → r ≡ Ok u → told_values (Ok n) ≡ answered n x
unfolding told_values
values-told n says ok = rw (told-ok says ok)

-- what is asked of tiles that are told, and nothing where an error is; Q is what the closure of a `map_or` gives
module _ {A : Type 0} (f : ℕ → A) (nothing : A) (n : ℕ) (x : Refusal) where
  pub asked_ok : {m : ℕ} → told_values (Ok m) ≡ answered n x → f m ≡ unless_refused x.number (f n) nothing
  unfolding told_values
  asked_ok {m = m} e =
      let zero : x.number ≡ 0 = sym (ap (λ (v : TileValues). v.number) e) in
      let same : m ≡ n = rw zero at (ap (λ (v : TileValues). v.tiles) e) in
      rw (zero, same)

  pub asked-err : (e : Refused) → told_values (Err e) ≡ answered n x → nothing ≡ unless_refused x.number (f n) nothing
  unfolding told_values
  asked-err e h = rw (ne_eqb x.number 0 (λ z. refuses e (ap (λ (v : TileValues). v.number) h ∙ z)))

  pub asked : (r : Result ℕ Refused) (y : A) (Q : ℕ → Type 0) → told_values r ≡ answered n x → MatchResult r Q (λ _. y ≡ nothing)
      → ((m : ℕ) → Q m → y ≡ f m) → y ≡ unless_refused x.number (f n) nothing
  asked (Ok m) y Q says q g = g m q ∙ asked_ok says
  asked (Err e) y Q says q g = q ∙ asked-err e says
