-- What does opening say of a tree that it takes? Nothing refused, so no check did (`opened-by`), and in a body that
-- passes every box below the root lies inside its parent (`body-nested`), whatever the rules. To an accepted tree a
-- footer and an F are there with which the body passes (`accepted-body`). Read off check by check, from the whole order
-- of checks down to the one that asks.
-- Assumes nothing.
use mathlib.Core.Path.{◌≡◌, refl, sym, ◌∙◌}
use mathlib.Core.Bool.{Bool, true, false, cond}
use mathlib.Core.List.{List}
use Prim.Native.Nat.{ℕ, suc, ◌-◌, ◌<◌, ◌/◌}
use native.Mathlib.Omega.{arith}
use lib.Dec.{eqb}
use borrow.Author.Tests.{eqb-true, eqb-false, not-false}
use Rattle.answers.specs.Refusals as refusals
use Rattle.answers.specs.Checks.{each}
use Rattle.answers.specs.declared.Refusal.{Refusal}
use Rattle.answers.proofs.Checks.{both-clear, check-clear, each-clear}
use Rattle.description.specs.declared.Description.{Description}
use Rattle.description.specs.Description.{sides_of, bytes_of_box}
use Rattle.description.specs.Rules.{Rules, current}
use Rattle.boxes.specs.Boxes.{ranges_refusal, box_inside, box_refusal}
use Rattle.tree.specs.Shape.{boxes, height}
use Rattle.footer.specs.Fields.{tiles_of, domain_bytes}
use Rattle.footer.specs.Checks.{footer_refusal, footer_refusal_by}
use Rattle.rtree.specs.declared.Opened.{Opened}
use Rattle.rtree.specs.Body.{fanout_of, place_of, box_at, shape_refusal}
use Rattle.rtree.specs.Opening.{root_refusal, inner_refusal, level_refusal, boxes_refusal, body_refusal}
use Rattle.rtree.specs.Opening.{open_answer, open_answer_by, Accepted}

-- an answer that refuses nothing comes from checks that refuse nothing, and holds the value of that case
picked : (r s : Refusal) (good bad other : Opened) → bad.number ≡ s.number → other.number ≡ r.number
    → (cond (eqb r.number 0) (cond (eqb s.number 0) good bad) other).number ≡ 0
    → (r.number ≡ 0) × (s.number ≡ 0)
    × ((cond (eqb r.number 0) (cond (eqb s.number 0) good bad) other).tiles ≡ good.tiles)
picked r s good bad other p q h = go (eqb r.number 0) (eqb s.number 0) refl refl h
  where
    go : (t u : Bool) → eqb r.number 0 ≡ t → eqb s.number 0 ≡ u → (cond t (cond u good bad) other).number ≡ 0
        → (r.number ≡ 0) × (s.number ≡ 0) × ((cond t (cond u good bad) other).tiles ≡ good.tiles)
    go true true a b h = (eqb-true r.number 0 a, eqb-true s.number 0 b, refl)
    go true false a b h = absurd (eqb-false s.number 0 b (omega arith))
    go false u a b h = absurd (eqb-false r.number 0 a (omega arith))

-- by any rules
pub opened-by : (rules : Rules) (d : Description) (F : ℕ) (footer body : List ℕ) → (open_answer_by rules d F footer body).number ≡ 0
    → ((footer_refusal_by rules d F footer).number ≡ 0)
    × ((body_refusal d (tiles_of d footer) (domain_bytes d footer) body).number ≡ 0)
    × ((open_answer_by rules d F footer body).tiles ≡ tiles_of d footer)
unfolding open_answer_by
opened-by rules d F footer body h =
    picked (footer_refusal_by rules d F footer) (body_refusal d (tiles_of d footer) (domain_bytes d footer) body) _ _ _ refl refl h

module _ (d : Description) (F : ℕ) (footer body : List ℕ) (h : (open_answer d F footer body).number ≡ 0) where
  pub opened : ((footer_refusal d F footer).number ≡ 0)
      × ((body_refusal d (tiles_of d footer) (domain_bytes d footer) body).number ≡ 0)
      × ((open_answer d F footer body).tiles ≡ tiles_of d footer)
  opened = opened-by current d F footer body h

  -- an opened tree is accepted
  pub opened-accepted : Accepted d (open_answer d F footer body).tiles body
  opened-accepted = record { footer = footer; file = F; passed = h; tiles = refl }

-- down the order of checks, from the body to a box
module _ (d : Description) (n : ℕ) (body : List ℕ) where
  -- the root's distance
  abbrev top : ℕ
  top = height (fanout_of body) n

  pub boxes-clear : (domain : List ℕ) → (body_refusal d n domain body).number ≡ 0 → (boxes_refusal d n body domain).number ≡ 0
  unfolding body_refusal
  boxes-clear domain h = (both-clear (shape_refusal n (bytes_of_box d) body) (boxes_refusal d n body domain) h).1

  pub level-clear : (domain : List ℕ) → (boxes_refusal d n body domain).number ≡ 0 → (j : ℕ) → j < top
      → (level_refusal d n body j).number ≡ 0
  unfolding boxes_refusal
  level-clear domain h j below =
      let below_root : ℕ → Refusal = λ l. level_refusal d n body (top - suc l) in
      let here : top - suc (top - suc j) ≡ j = omega arith in
      let all = (both-clear (root_refusal d n body domain) (each below_root 0 top) h).1 in
      rw here at (each-clear below_root 0 top all (top - suc j) (omega arith) (omega arith))

  pub box-clear : (j k : ℕ) → k < boxes (fanout_of body) n j → (level_refusal d n body j).number ≡ 0
      → (inner_refusal d n body j k).number ≡ 0
  unfolding level_refusal
  box-clear j k there h =
      each-clear (inner_refusal d n body j) 0 (boxes (fanout_of body) n j) h k (omega arith) (omega arith)

  -- box k at distance j lies inside its parent, box k / f of the level above
  abbrev pub InParent : ℕ → ℕ → Type 0
  InParent j k =
      box_inside d.kinds (sides_of d.dimensions)
      (box_at n (bytes_of_box d) body j k) (box_at n (bytes_of_box d) body (suc j) (k / fanout_of body)) ≡ true

  -- A body that passes, whatever the rules and whatever the footer: every box below the root lies inside its parent.
  pub body-nested : (domain : List ℕ) → (body_refusal d n domain body).number ≡ 0
      → (j k : ℕ) → j < top → k < boxes (fanout_of body) n j → InParent j k
  unfolding inner_refusal box_refusal
  body-nested domain h j k below there =
      let bytes = box_at n (bytes_of_box d) body j k in
      let ranges = ranges_refusal d.kinds (sides_of d.dimensions) bytes (place_of n (bytes_of_box d) body j k) in
      let clear = box-clear j k there (level-clear domain (boxes-clear domain h) j below) in
      not-false _ (check-clear _ refusals.outside_parent _ (omega arith) (both-clear ranges _ clear).1)

module _ (d : Description) (n : ℕ) (body : List ℕ) (a : Accepted d n body) where
  -- the body passes with that footer's domain
  pub accepted-body : (body_refusal d n (domain_bytes d a.footer) body).number ≡ 0
  accepted-body =
      let h = opened d a.file a.footer body a.passed in
      rw (sym h.2 ∙ a.tiles) at h.1

  pub nested : (j k : ℕ) → j < height (fanout_of body) n → k < boxes (fanout_of body) n j → InParent d n body j k
  nested = body-nested d n body (domain_bytes d a.footer) accepted-body
