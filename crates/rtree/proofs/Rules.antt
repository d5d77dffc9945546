-- What does opening answer by other rules? It asks the rules in the footer's checks alone. So without a
-- float32 dimension every answer is as just before float32 was retired (`unmoved`); what was opened with the earlier limit
-- is opened now, with the same answer (`stays_open`); where the footer says at most 65,536 tiles every answer is as with
-- that limit, refusals too (`as_before`); and by rules with fewer tiles a larger n, in a footer that is sound up to
-- there, is refused with 10 at its start, which counts in the footer (`too_many`).
-- Assumes nothing.
use mathlib.Core.Path.{◌≡◌}
use mathlib.Core.List.{List}
use Prim.Native.Nat.{ℕ, ◌≤◌, ◌<◌}
use Rattle.answers.specs.Refusals as refusals
use Rattle.answers.specs.Refusals.{refusal}
use Rattle.answers.specs.Checks.{first}
use Rattle.description.specs.declared.Description.{Description}
use Rattle.description.specs.Rules.{Rules, before, earlier}
use Rattle.description.proofs.Rules.{Agree, Unretired, unretired, few}
use Rattle.footer.specs.Fields.{start, tiles_of}
use Rattle.footer.proofs.Rules as footers
use Rattle.rtree.specs.Opening.{refused_in, open_answer, open_answer_by}
use Rattle.rtree.proofs.Nested.{opened-by}

module _ (d : Description) (F : ℕ) (footer body : List ℕ) where
  pub same-opening : {a b : Rules} → Agree a b d (tiles_of d footer) → open_answer_by a d F footer body ≡ open_answer_by b d F footer body
  unfolding open_answer_by
  same-opening same = rw (footers.same-refusal d F footer same)

  -- Without a float32 dimension any footer and any body are opened, or refused, as just before float32 was retired,
  pub unmoved : Unretired d → open_answer d F footer body ≡ open_answer_by before d F footer body
  unmoved u = same-opening (unretired d (tiles_of d footer) u)

  -- and, where the footer says at most 65,536 tiles, as with the earlier limit.
  pub as_before : Unretired d → tiles_of d footer ≤ earlier.tiles → open_answer d F footer body ≡ open_answer_by earlier d F footer body
  as_before u h = same-opening (few d (tiles_of d footer) u h)

  -- Every such tree that was accepted with the earlier limit stays accepted, with the same answer.
  pub stays_open : Unretired d → (open_answer_by earlier d F footer body).number ≡ 0
      → open_answer d F footer body ≡ open_answer_by earlier d F footer body
  stays_open u h = as_before u (footers.tiles-within earlier d F footer (opened-by earlier d F footer body h).0).1

  -- A larger n, in a footer that is sound up to there, is refused with 10 at its start in the first of the two.
  pub too_many : (rules : Rules) → (first (footers.before_tiles rules d F footer)).number ≡ 0 → rules.tiles < tiles_of d footer
      → open_answer_by rules d F footer body ≡ refused_in 0 (refusal refusals.tiles (start d footer "tiles"))
  unfolding open_answer_by
  too_many rules sound more = rw (footers.too_many rules d F footer sound more)
