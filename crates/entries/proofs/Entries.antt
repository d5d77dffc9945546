-- What does the check of a list's entries come to? It is the header's refusal, and that of the entries where the header
-- is sound.
-- Assumes nothing.
use mathlib.Core.Path.{◌≡◌, sym, ◌∙◌}
use Rattle.std.specs.Prelude.{Result, Ok, Err}
use mathlib.Core.Bool.{Bool, false, cond}
use mathlib.Core.List.{List}
use Prim.Native.Nat.{ℕ, ◌+◌, ◌*◌, ◌/◌, ◌≤◌, ◌<◌}
use native.Mathlib.Nat.{add_assoc, zero-add, add-zero}
use native.Mathlib.Numerals.{add-one}
use native.Mathlib.Decide.{dec_lt}
use native.Mathlib.Omega.{arith}
use lib.Dec.{ltb, leb, eqb}
use lib.ListN.{length}
use borrow.Author.Tests.{lt-ltb, le-ltb, le-leb, lt-leb, ne_eqb}
use Rattle.answers.specs.Refusals.{refusal, bytes, the_tile_offsets}
use Rattle.answers.specs.Told.{number_of}
use Rattle.answers.specs.declared.Refusal.{Refusal}
use Rattle.answers.specs.declared.Refused.{Refused}
use Rattle.answers.specs.Runs.{sum}
use Rattle.answers.specs.Checks.{check, each}
use Rattle.answers.proofs.Told.{refuses}
use Rattle.answers.proofs.Runs.{over-snoc, Each}
use Rattle.answers.proofs.Checks.{past, stop, clear, past-check, stop-check, check-clear, each_none, each-clear, last}
use Rattle.lists.specs.Lists.{entry, list_refusal, entries_refusal, entries_refusal_by}
use Rattle.lists.specs.VarOffsets.{var_breaks, starts_refusal}
use Rattle.lists.specs.Sizes.{told_sum}
use Rattle.entries.specs.Code.Rules.{Says}

-- ---- sums
pub sum-next : (g : ℕ → ℕ) (i : ℕ) → sum g 0 (i + 1) ≡ sum g 0 i + g i
sum-next g i = rw (add-one i) (over-snoc ◌+◌ 0 add_assoc zero-add add-zero g 0 i ∙ rw zero-add)

-- ---- the entries, after the header
module _ (breaks : ℕ → Bool) (number n : ℕ) (s : List ℕ) where
  pub header-stops : ((list_refusal n 8 s).number ≡ 0 → ⊥) → entries_refusal breaks number n s ≡ list_refusal n 8 s
  unfolding entries_refusal_by
  header-stops h = stop _ _ h

  pub entries-decide : (list_refusal n 8 s).number ≡ 0
      → entries_refusal breaks number n s ≡ each (λ i. check (breaks i) number (8 + 8 * i)) 0 n
  unfolding entries_refusal_by
  entries-decide h = past _ _ h ∙ last _ (each_none _ 0 n)

  -- of a list that is accepted
  pub header-sound : (entries_refusal breaks number n s).number ≡ 0 → (list_refusal n 8 s).number ≡ 0
  unfolding entries_refusal_by
  header-sound accepted = (clear _ _ accepted).0

  pub entries-sound : 0 < number → (entries_refusal breaks number n s).number ≡ 0 → Each (λ i. breaks i ≡ false) 0 n
  unfolding entries_refusal_by
  entries-sound some accepted i a b =
      let each-one = each-clear _ 0 n (clear _ _ (clear _ _ accepted).1).0 in
      check-clear (breaks i) number (8 + 8 * i) some (each-one i a b)

-- ---- what a check that answers a sum tells
pub says-sum : (r : Result ℕ Refused) (x : Refusal) (value : ℕ) → Says x value r
    → told_sum r ≡ record { number = x.number; place = x.place; sum = cond (eqb x.number 0) value 0 }
unfolding told_sum
says-sum (Ok v) x value says = rw (says.0, says.1)
says-sum (Err e) x value says = rw (← says, ne_eqb (number_of e.reason) 0 (refuses e))

-- ---- starts, where the bytes are as many as they need, and where they aren't
module _ (n size : ℕ) (s : List ℕ) where
  pub starts-short : length s < 8 + 8 * n → starts_refusal n size s ≡ refusal bytes (length s)
  unfolding starts_refusal
  starts-short h = stop-check _ _ _ _ (lt-ltb (length s) (8 + 8 * n) h) (omega arith)

  pub starts-decide : 8 + 8 * n ≤ length s
      → starts_refusal n size s ≡ each (λ i. check (var_breaks size (entry s) i) the_tile_offsets (8 + 8 * i)) 0 n
  unfolding starts_refusal
  starts-decide h = past-check _ _ _ _ (le-ltb (length s) (8 + 8 * n) h) ∙ last _ (each_none _ 0 n)

pub short-is : (l n : ℕ) → leb (l / 8) n ≡ ltb l (8 + 8 * n)
short-is l n = go (dec_lt l (8 + 8 * n))
  where
    go : Dec (l < 8 + 8 * n) → leb (l / 8) n ≡ ltb l (8 + 8 * n)
    go (yes h) = le-leb (l / 8) n (omega arith) ∙ sym (lt-ltb l (8 + 8 * n) h)
    go (no h) = lt-leb (l / 8) n (omega arith) ∙ sym (le-ltb l (8 + 8 * n) (omega arith))
