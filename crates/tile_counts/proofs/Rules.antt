-- What do null counts answer by other rules? The rules are asked in the footer's checks alone, which also tell n. So by
-- rules that agree on the description and on the footer's own n every answer is the same, refusals too; without a
-- float32 dimension all is as just before float32 was retired (`unmoved`). Sums ask nothing of a description.
-- Assumes nothing.
use mathlib.Core.Path.{◌≡◌}
use mathlib.Core.List.{List}
use Prim.Native.Nat.{ℕ}
use Rattle.description.specs.declared.Description.{Description}
use Rattle.description.specs.Rules.{Rules, before}
use Rattle.description.proofs.Rules.{Agree, Unretired, unretired}
use Rattle.footer.specs.Fields.{tiles_of}
use Rattle.footer.proofs.Rules.{same-refusal, same-checked}
use Rattle.tile_counts.specs.Counts.{null_counts_answer, null_counts_answer_by, null_count_answer, null_count_answer_by}

module _ (d : Description) (F : ℕ) (footer s : List ℕ) where
  pub same-counts : {a b : Rules} → Agree a b d (tiles_of d footer)
      → (null_counts_answer_by a d F footer s ≡ null_counts_answer_by b d F footer s)
      × ((i : ℕ) → null_count_answer_by a d F footer s i ≡ null_count_answer_by b d F footer s i)
  same-counts same = (
    rw (same-refusal d F footer same, same-checked d F footer same),
    λ i. rw (same-refusal d F footer same, same-checked d F footer same),
  )

  pub unmoved : Unretired d
      → (null_counts_answer d F footer s ≡ null_counts_answer_by before d F footer s)
      × ((i : ℕ) → null_count_answer d F footer s i ≡ null_count_answer_by before d F footer s i)
  unmoved u = same-counts (unretired d (tiles_of d footer) u)
