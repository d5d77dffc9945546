-- What is said of a footer comes from its answer, whose number and place are the refusal's. And what is known of
-- accepted null counts? Each is at most its tile's cells.
-- Assumes nothing.
use mathlib.Core.Path.{◌≡◌, refl, ◌∙◌}
use mathlib.Core.Bool.{Bool, true, false, cond}
use mathlib.Core.List.{List}
use Prim.Native.Nat.{ℕ, ◌+◌, ◌-◌, ◌≤◌, ◌<◌}
use native.Mathlib.Decide.{dec_lt}
use native.Mathlib.Omega.{arith}
use lib.Dec.{eqb, ltb}
use borrow.Author.Tests.{eqb-false, ltb-false, lt-ltb, le-ltb, eq-eqb}
use Rattle.answers.specs.Refusals.{refusal, none, null_count}
use Rattle.answers.specs.declared.Refusal.{Refusal}
use Rattle.description.specs.declared.Description.{Description}
use Rattle.footer.specs.Checks.{footer_refusal}
use Rattle.footer.specs.Answer.{cells_of, checked_answer, refused_checked, tile_cells, tile_cells_by}
use Rattle.footer.proofs.Passed.{checked-number, checked_refused}
use Rattle.lists.specs.Lists.{entry, list_refusal}
use Rattle.lists.proofs.Header as header
use Rattle.entries.proofs.Entries.{header-sound, entries-sound, entries-decide}
use Rattle.tile_metadata.specs.Bodies.{together}
use Rattle.tile_metadata.proofs.Bodies.{both-accepted}
use Rattle.tile_metadata.proofs.Turns.{none-break, Between}
use Rattle.tile_counts.specs.Counts.{counts_refusal, null_counts_refusal, null_counts_answer}

-- counts of full tiles at most C, and the last one at most its own cells
pub within-cells : (n last c : ℕ) (s : List ℕ) → 1 ≤ n → Between (λ j. entry s j ≤ c) 0 (n - 1) → Between (λ j. entry s j ≤ last) (n - 1) n
    → (i : ℕ) → i < n → entry s i ≤ cells_of n last c i
unfolding cells_of
within-cells n last c s some full rest i h = go (dec_lt (i + 1) n)
  where
    go : Dec (i + 1 < n) → entry s i ≤ cond (ltb (i + 1) n) c (cond (eqb (i + 1) n) last 0)
    go (yes l) = rw (lt-ltb (i + 1) n l) (full i (omega arith) (omega arith))
    go (no l) = rw (le-ltb (i + 1) n (omega arith), eq-eqb (i + 1) n (omega arith)) (rest i (omega arith) h)

-- where every count of a list that is laid out is at most its tile's cells, nothing is said
pub none_above : (n last c : ℕ) (s : List ℕ) → (list_refusal n 8 s).number ≡ 0 → ((i : ℕ) → i < n → entry s i ≤ cells_of n last c i)
    → counts_refusal n last c s ≡ none
unfolding counts_refusal
none_above n last c s h each =
    entries-decide _ null_count n s h ∙ none-break _ null_count 8 n (λ i l. le-ltb _ _ (each i l))

module _ (d : Description) (F : ℕ) (footer : List ℕ) where
  pub told-first : (n : ℕ) (b : Refusal)
      → together n (refusal (checked_answer d F footer).number (checked_answer d F footer).place) b ≡ together n (footer_refusal d F footer) b
  unfolding refused_checked
  told-first n b = go (eqb (footer_refusal d F footer).number 0) refl
    where
      go : (t : Bool) → eqb (footer_refusal d F footer).number 0 ≡ t
          → together n (refusal (checked_answer d F footer).number (checked_answer d F footer).place) b ≡ together n (footer_refusal d F footer) b
      go true e = rw (checked-number d F footer, e)
      go false e = rw (checked_refused d F footer (eqb-false _ 0 e))

  -- n counts, none above its tile's cells
  pub record Counted (s : List ℕ) : Type 0 where
    pub layout : header.Sound (checked_answer d F footer).tiles 8 s
    pub within : (i : ℕ) → i < (checked_answer d F footer).tiles → entry s i ≤ tile_cells d F footer i

  pub counted : (s : List ℕ) → (null_counts_answer d F footer s).number ≡ 0 → Counted s
  unfolding counts_refusal tile_cells_by
  counted s h =
      let n = (checked_answer d F footer).tiles in
      let b = (both-accepted n (footer_refusal d F footer) (null_counts_refusal d F footer s) h).1 in
      record {
        layout = header.sound n 8 s (header-sound _ null_count n s b);
        within = λ i l. ltb-false _ _ (entries-sound _ null_count n s (omega arith) b i (omega arith) (omega arith));
      }
