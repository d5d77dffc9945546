-- The boxes of a body from one of them on, in body order. Nothing here is promised to a caller.
-- Assumes nothing.
use Rattle.std.specs.Prelude.{ℕ, zero, suc, ◌-◌, cond, List, eqb}
use Rattle.answers.specs.Refusals as refusals
use Rattle.answers.specs.Checks.{otherwise, each}
use Rattle.answers.specs.declared.Refusal.{Refusal}
use Rattle.description.specs.declared.Description.{Description}
use Rattle.tree.specs.Shape.{boxes, height}
use Rattle.rtree.specs.Body.{fanout_of}
use Rattle.rtree.specs.Opening.{root_refusal, inner_refusal, level_refusal}

module _ (d : Description) (n : ℕ) (domain body : List ℕ) where
  -- box k at distance j: the first against the domain, any other against its parent
  abbrev pub box_check : ℕ → ℕ → Refusal
  box_check j k = cond (eqb j (height (fanout_of body) n)) (root_refusal d n body domain) (inner_refusal d n body j k)

  -- the levels below distance j
  unfoldable pub below : ℕ → Refusal
  below zero = refusals.none
  below (suc j) = otherwise (level_refusal d n body j) (below j)

  -- the boxes from box k at distance j on
  abbrev pub boxes_from : ℕ → ℕ → Refusal
  boxes_from j k = otherwise (each (box_check j) k (boxes (fanout_of body) n j - k)) (below j)
