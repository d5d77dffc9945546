-- What does a list answer by other rules? It asks them in its first check alone. So by rules that agree on n every answer
-- is the same, refusals too; for at most 65,536 tiles the earlier rules are such (`as_before`).
-- Assumes nothing.
use mathlib.Core.Path.{◌≡◌}
use mathlib.Core.Bool.{Bool}
use mathlib.Core.List.{List}
use Prim.Native.Nat.{ℕ, ◌≤◌}
use Rattle.description.specs.Rules.{Rules, earlier}
use Rattle.description.proofs.Rules.{AgreeOn, few-tiles}
use Rattle.lists.specs.Lists.{list_refusal, list_refusal_by, entries_refusal_by}
use Rattle.lists.specs.Offsets.{offsets_refusal_by, offsets_answer, offsets_answer_by, extent_answer, extent_answer_by}
use Rattle.lists.specs.VarOffsets.{var_offsets_refusal_by, var_offsets_answer, var_offsets_answer_by, var_extent_answer, var_extent_answer_by}
use Rattle.lists.specs.Sizes.{sizes_refusal_by, sizes_answer, sizes_answer_by}

module _ {a b : Rules} (n : ℕ) (same : AgreeOn a b n) where
  pub same-header : (width : ℕ) (s : List ℕ) → list_refusal_by a n width s ≡ list_refusal_by b n width s
  unfolding list_refusal_by
  same-header width s = rw same.tiles

  same_entries : (breaks : ℕ → Bool) (number : ℕ) (s : List ℕ)
      → entries_refusal_by a breaks number n s ≡ entries_refusal_by b breaks number n s
  unfolding entries_refusal_by
  same_entries breaks number s = rw (same-header 8 s)

  pub same-offsets : (S : ℕ) (s : List ℕ) → offsets_refusal_by a n S s ≡ offsets_refusal_by b n S s
  unfolding offsets_refusal_by
  same-offsets S s = same_entries _ _ s

  pub same-var-offsets : (S : ℕ) (s : List ℕ) → var_offsets_refusal_by a n S s ≡ var_offsets_refusal_by b n S s
  unfolding var_offsets_refusal_by
  same-var-offsets S s = same_entries _ _ s

  pub same-sizes : (s : List ℕ) → sizes_refusal_by a n s ≡ sizes_refusal_by b n s
  unfolding sizes_refusal_by
  same-sizes s = same_entries _ _ s

-- every answer about a list of n entries, by this library's rules and by others
pub record SameAnswers (others : Rules) (n : ℕ) (s : List ℕ) : Type 0 where
  pub header : (width : ℕ) → list_refusal n width s ≡ list_refusal_by others n width s
  pub offsets : (S : ℕ) → offsets_answer n S s ≡ offsets_answer_by others n S s
  pub extent : (S i : ℕ) → extent_answer n S s i ≡ extent_answer_by others n S s i
  pub var-offsets : (S : ℕ) → var_offsets_answer n S s ≡ var_offsets_answer_by others n S s
  pub var-extent : (S i : ℕ) → var_extent_answer n S s i ≡ var_extent_answer_by others n S s i
  pub sizes : sizes_answer n s ≡ sizes_answer_by others n s

-- A list for at most 65,536 tiles is answered as before, refusals too.
pub as_before : (n : ℕ) (s : List ℕ) → n ≤ earlier.tiles → SameAnswers earlier n s
as_before n s h =
    let same = few-tiles n h in
    record {
      header = λ width. same-header n same width s;
      offsets = λ S. rw (same-offsets n same S s);
      extent = λ S i. rw (same-offsets n same S s);
      var-offsets = λ S. rw (same-var-offsets n same S s);
      var-extent = λ S i. rw (same-var-offsets n same S s);
      sizes = rw (same-sizes n same s);
    }
