-- What does a body in parts answer by other rules? They are asked in the footer's checks and in opening the whole, of
-- the description and of the footer's own n. So by rules that agree on these every answer is the same, refusals too;
-- without a float32 dimension it is as just before float32 was retired (`unmoved`), whatever the blocks, the stated
-- length and the work buffer's room are.
-- Assumes nothing.
use mathlib.Core.Path.{◌≡◌}
use mathlib.Core.List.{List}
use Prim.Native.Nat.{ℕ}
use Rattle.description.specs.declared.Description.{Description}
use Rattle.description.specs.Rules.{Rules, before}
use Rattle.description.proofs.Rules.{Agree, Unretired, unretired}
use Rattle.footer.specs.Fields.{tiles_of}
use Rattle.footer.proofs.Rules as footers
use Rattle.rtree.proofs.Rules as trees
use Rattle.parts_state.specs.Parts.{parts_answer, parts_answer_by}

module _ (d : Description) (F : ℕ) (footer : List ℕ) (stated room : ℕ) (got : List ℕ) where
  pub same_parts : {a b : Rules} → Agree a b d (tiles_of d footer)
      → parts_answer_by a d F footer stated room got ≡ parts_answer_by b d F footer stated room got
  unfolding parts_answer_by
  same_parts same = rw (footers.same-refusal d F footer same, trees.same-opening d F footer got same)

  pub unmoved : Unretired d → parts_answer d F footer stated room got ≡ parts_answer_by before d F footer stated room got
  unmoved u = same_parts (unretired d (tiles_of d footer) u)
