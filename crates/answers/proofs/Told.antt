-- What a check in code told: the number of a reason is never 0, so an error refuses and nothing else does; and how `?`
-- goes through checks in turn.
-- Assumes nothing.
use Rattle.std.proofs.Common.{◌≡◌, ℕ, ◌+◌, ◌-◌, ◌%◌, ◌^◌, ◌<◌, ◌≤◌, Result, Ok, Err, List, [], ◌∷◌, refl, sym, ap, ◌∙◌, arith, ne_eqb}
use Rattle.std.specs.Prelude.{IsErrAnd, MatchResult}
use Rattle.answers.specs.declared.Refusal.{Refusal}
use Rattle.answers.specs.declared.Reason.{Reason}
use Rattle.answers.specs.declared.Refused.{Refused}
use Rattle.answers.specs.contracts.Reason.{the_type}
use denote.Enum.Declared.{tag_of}
use Rattle.answers.specs.Refusals.{none}
use Rattle.answers.specs.Checks.{otherwise, first, each, moved_round}
use Rattle.answers.specs.Told.{number_of, refused, said, told}
use Rattle.answers.proofs.Checks.{go_on, halt, past, stop, last, past-left, stop-left, none_left}

-- the number is the variant's own
pub numbered : (r : Reason) → tag_of the_type r + 1 ≡ number_of r
unfolding number_of
numbered Reason.Description = refl
numbered Reason.Bytes = refl
numbered Reason.Version = refl
numbered Reason.NameSize = refl
numbered Reason.Flag = refl
numbered Reason.Dense = refl
numbered Reason.NullDomain = refl
numbered Reason.NotANumber = refl
numbered Reason.Reversed = refl
numbered Reason.Tiles = refl
numbered Reason.LastCells = refl
numbered Reason.Offset = refl
numbered Reason.Fanout = refl
numbered Reason.Levels = refl
numbered Reason.OutsideParent = refl
numbered Reason.OutsideDomain = refl
numbered Reason.Count = refl
numbered Reason.TileOffsets = refl
numbered Reason.Window = refl
numbered Reason.SizesSum = refl
numbered Reason.Work = refl
numbered Reason.Runs = refl
numbered Reason.Infinite = refl
numbered Reason.BadLine = refl
numbered Reason.Repeated = refl
numbered Reason.Room = refl
numbered Reason.NullCount = refl
numbered Reason.Retired = refl
numbered Reason.Grid = refl

pub some : (r : Reason) → 0 < number_of r
some r = rw (← (numbered r)) (omega arith)

pub refuses : (e : Refused) → (said e).number ≡ 0 → ⊥
refuses e h = let l = some e.reason in omega arith

pub moved_said : (start : ℕ) (e : Refused)
    → said (refused e.reason ((start + e.place) % 2 ^ 64)) ≡ moved_round start (said e)
moved_said start e = rw (ne_eqb (number_of e.reason) 0 (refuses e))

-- what a call told, by its arm
module _ {r : Result Unit Refused} {x : Refusal} (says : told r ≡ x) where
  pub told-ok : {u : Unit} → r ≡ Ok u → x ≡ none
  unfolding told
  told-ok e = sym says ∙ rw e

  pub told-err : {e : Refused} → r ≡ Err e → told (Err e) ≡ x
  told-err e = rw (← e) says

  pub ok-clear : {u : Unit} → r ≡ Ok u → x.number ≡ 0
  ok-clear e = rw (told-ok e)

  pub err-some : {e : Refused} → r ≡ Err e → x.number ≡ 0 → ⊥
  unfolding told
  err-some {e = e} h n = refuses e (ap (λ t. t.number) (told-err h) ∙ n)

  -- in turn: past one that says nothing, or to a stop at one that refuses
  pub goes_on : {u : Unit} (s : Refusal) → r ≡ Ok u → otherwise x s ≡ s
  goes_on s e = go_on x s (ok-clear e)

  pub halts : {e : Refused} (s : Refusal) → r ≡ Err e → told (Err e) ≡ otherwise x s
  halts s e = told-err e ∙ sym (halt x s (err-some e))

  pub passes : {u : Unit} (rs : List Refusal) → r ≡ Ok u → first (x ∷ rs) ≡ first rs
  passes rs e = past x rs (ok-clear e)

  pub stops : {e : Refused} (rs : List Refusal) → r ≡ Err e → told (Err e) ≡ first (x ∷ rs)
  stops rs e = told-err e ∙ sym (stop x rs (err-some e))

-- what refuses nothing says `none`, so the last of a list has the last word
pub ends : (r : Result Unit Refused) (x : Refusal) → told r ≡ x → first (x ∷ []) ≡ x
unfolding told
ends r x says = last x (λ n. go r says n)
  where
    go : (q : Result Unit Refused) → told q ≡ x → x.number ≡ 0 → x ≡ none
    go (Ok u) e n = sym e
    go (Err e) h n = absurd (refuses e (ap (λ t. t.number) h ∙ n))

-- what the exit of a `?` tells
pub exits : (r : Result Unit Refused) (e : Refused) → IsErrAnd r (λ y. y ≡ e) → {x : Refusal} → told (Err e) ≡ x → told r ≡ x
exits (Ok u) e h says = absurd h
exits (Err y) e h says = rw h says

-- the same from a start on, as `map_err` has it; Q is what its closure gives
pub moves : (r s : Result Unit Refused) (start : ℕ) (Q : Refused → Refused → Type 0)
    → MatchResult r (λ u. s ≡ Ok u) (λ e. IsErrAnd s (Q e)) → ((e y : Refused) → Q e y → said y ≡ moved_round start (said e))
    → told s ≡ moved_round start (told r)
unfolding told
moves (Ok u) s start Q h f = rw h
moves (Err e) (Ok u) start Q h f = absurd h
moves (Err e) (Err y) start Q h f = f e y h

-- a check that comes after one that says nothing
pub comes_next : {r : Result Unit Refused} (r' : Result Unit Refused) {x s : Refusal} {u : Unit} → told r ≡ x → told r' ≡ s → r ≡ Ok u
    → told r' ≡ otherwise x s
comes_next r' {s = s} says says' e = says' ∙ sym (goes_on says s e)

-- a loop over n checks at the one of i: past it, or to a stop there; and what is left at its end
module _ (g : ℕ → Refusal) (i n : ℕ) (l : i < n) {r : Result Unit Refused} (says : told r ≡ g i) where
  pub passes-left : {u : Unit} → r ≡ Ok u → each g i (n - i) ≡ each g (i + 1) (n - (i + 1))
  passes-left e = past-left g i n (g i) l refl (ok-clear says e)

  pub stops-left : {e : Refused} → r ≡ Err e → told (Err e) ≡ each g i (n - i)
  stops-left e = told-err says e ∙ sym (stop-left g i n (g i) l refl (err-some says e))

pub done-left : (g : ℕ → Refusal) (i n : ℕ) {u : Unit} → n ≤ i → told (Ok u) ≡ each g i (n - i)
unfolding told
done-left g i n h = sym (none_left g i (n - i) (omega arith))
