-- The empty arrays, and the answer of a refused and of an accepted listing.
-- Assumes nothing.
use mathlib.Core.Path.{◌≡◌, ap, ◌∙◌}
use mathlib.Core.Bool.{false}
use mathlib.Core.List.{List}
use Rattle.std.specs.Prelude.{Result, Ok, Err, IsErrAnd}
use Prim.Native.Nat.{ℕ}
use native.Mathlib.Omega.{arith}
use lib.Dec.{eqb}
use lib.ListN.{length, replicate, length-replicate, get_or-replicate}
use lib.Seq.{take-nil}
use borrow.Author.Tests.{ne_eqb}
use Rattle.answers.specs.declared.Refusal.{Refusal}
use Rattle.answers.specs.declared.Refused.{Refused}
use Rattle.answers.specs.Refusals.{none}
use Rattle.answers.specs.Told.{said}
use Rattle.answers.proofs.Told.{refuses}
use Rattle.answers.specs.Laid.{laid}
use Rattle.text.specs.Text.{Bytes, lines}
use Rattle.commits.specs.declared.Committed.{Committed}
use Rattle.commits.specs.Committed.{lines_listed, listing_refusal, committed_lines, committed_answer, told_committed}
use Rattle.commits.specs.Alike.{AlikeListings}
use Rattle.commits.specs.declared.Row.{Row}
use Rattle.commits.specs.Code.Index.{no_row, last_in, Index}
use Rattle.commits.proofs.Alike.{same-names-of}

pub no_lines : (t : Bytes) → Index t 0 (replicate 1024 no_row) (replicate 1024 0) (replicate 1024 0)
unfolding last_in
no_lines t = record {
  table = record {
    size = length-replicate {A = Row} 1024 no_row;
    few = omega arith;
    there = omega arith;
    row = λ i h. absurd (omega arith);
  };
  chains = record { size = length-replicate {A = ℕ} 1024 0; leads = λ i h. absurd (omega arith) };
  ends = record { size = length-replicate {A = ℕ} 1024 0; last = λ h l. get_or-replicate {A = ℕ} 1024 h 0 0 l };
}

module _ (t : Bytes) (time : ℕ) (out : List ℕ) where
  abbrev Answers : Committed → List ℕ → Type 0
  Answers r after = (r ≡ committed_answer t time) × ((after ≡ laid (committed_lines t time) out) × AlikeListings t time r.found after)

  answers : {r : Committed} {after : List ℕ} → r ≡ committed_answer t time → after ≡ laid (committed_lines t time) out → Answers r after
  answers e f = (e, (f, same-names-of t time out e f))

  pub refused : (r : Result ℕ Refused) (e : Refused) → IsErrAnd r (λ y. y ≡ e) → said e ≡ listing_refusal (lines t)
      → Answers (told_committed r) out
  unfolding committed_answer committed_lines told_committed
  refused (Ok n) e h is = absurd h
  refused (Err y) e h is =
      let z : eqb (listing_refusal (lines t)).number 0 ≡ false = ne_eqb (listing_refusal (lines t)).number 0 (λ q. refuses e (ap (λ (r : Refusal). r.number) is ∙ q)) in
      answers (rw (z, ← is, h)) (rw (z, take-nil (length out)))

  pub accepted : listing_refusal (lines t) ≡ none → (found : ℕ) (after : List ℕ) → found ≡ length (lines_listed time (lines t))
      → after ≡ laid (lines_listed time (lines t)) out
      → Answers (told_committed (Ok found)) after
  unfolding committed_answer committed_lines told_committed
  accepted z found after f a = answers (rw (z, f)) (rw (z) a)
