-- What code that checks a list tells: how many tiles it has, or its sum, where the definition refuses nothing, and else
-- what the definition is refused with.
-- Assumes nothing.
use Rattle.std.proofs.Common.{◌≡◌, ℕ, Result, Ok, Err, ne_eqb}
use Rattle.std.specs.Prelude.{IsErrAnd}
use Rattle.answers.specs.declared.Refusal.{Refusal}
use Rattle.answers.specs.declared.Refused.{Refused}
use Rattle.answers.specs.Told.{told, number_of}
use Rattle.answers.proofs.Told.{refuses}
use Rattle.lists.specs.Offsets.{answered, told_tiles}

pub refused-tiles : (n : ℕ) (r : Result ℕ Refused) (e : Refused) → IsErrAnd r (λ y. y ≡ e) → {x : Refusal}
    → told (Err e) ≡ x → told_tiles r ≡ answered n x
unfolding told told_tiles
refused-tiles n (Ok k) e h says = absurd h
refused-tiles n (Err y) e h says =
    rw (h, ← says, ne_eqb (number_of e.reason) 0 (refuses e))
