-- Opening: a footer and a tree body together.
-- Assumes nothing.
use Rattle.std.specs.Prelude.{ℕ, suc, ◌-◌, ◌/◌, ◌≡◌, cond, List, eqb}
use Rattle.answers.specs.Refusals as refusals
use Rattle.answers.specs.Checks.{otherwise, each}
use Rattle.answers.specs.declared.Refusal.{Refusal}
use Rattle.description.specs.declared.Description.{Description}
use Rattle.description.specs.Description.{sides_of, bytes_of_box}
use Rattle.boxes.specs.Boxes.{box_refusal}
use Rattle.tree.specs.Shape.{boxes, height}
use Rattle.footer.specs.Fields.{tiles_of, domain_bytes}
use Rattle.description.specs.Rules.{Rules, current}
use Rattle.footer.specs.Checks.{footer_refusal_by}
use Rattle.rtree.specs.declared.Opened.{Opened}
use Rattle.rtree.specs.Body.{fanout_of, levels_of, place_of, box_at, shape_refusal}

module _ (d : Description) (n : ℕ) (body : List ℕ) where
  -- box k at distance j: its ranges (8, 23, 9 per dimension), and then whether it lies inside another
  abbrev pub stored_box : List ℕ → ℕ → ℕ → ℕ → Refusal
  stored_box outer number j k =
      box_refusal d.kinds (sides_of d.dimensions)
      (box_at n (bytes_of_box d) body j k) outer number (place_of n (bytes_of_box d) body j k)

  -- 16 for the first box
  unfoldable pub root_refusal : List ℕ → Refusal
  root_refusal domain = stored_box domain refusals.outside_domain (height (fanout_of body) n) 0

  -- 15 for any other. The parent of box k is box k / f of the level above.
  unfoldable pub inner_refusal : ℕ → ℕ → Refusal
  inner_refusal j k = stored_box (box_at n (bytes_of_box d) body (suc j) (k / fanout_of body)) refusals.outside_parent j k

  -- a level's boxes, in order
  unfoldable pub level_refusal : ℕ → Refusal
  level_refusal j = each (inner_refusal j) 0 (boxes (fanout_of body) n j)

  -- every box in body order: the first, and then level by level down to the leaves
  unfoldable pub boxes_refusal : List ℕ → Refusal
  boxes_refusal domain =
      otherwise (root_refusal domain)
      (each (λ l. level_refusal (height (fanout_of body) n - suc l)) 0 (height (fanout_of body) n))

-- the refusals that count in the body, with the footer's n and domain
unfoldable pub body_refusal : Description → ℕ → List ℕ → List ℕ → Refusal
body_refusal d n domain body = otherwise (shape_refusal n (bytes_of_box d) body) (boxes_refusal d n body domain)

-- a refusal in one of the two, 0 the footer and 1 the body: every other number is 0
abbrev pub refused_in : ℕ → Refusal → Opened
refused_in which r =
    record { number = r.number; place = r.place; which = which; tiles = 0; fanout = 0; levels = 0 }

-- Accepted, it answers n, f and L.
abbrev pub accepted_tree : ℕ → List ℕ → Opened
accepted_tree n body =
    record { number = 0; place = 0; which = 0; tiles = n; fanout = fanout_of body; levels = levels_of body }

-- The footer's refusals come first and count in the first of the two, the others in the second.
unfoldable pub open_answer_by : Rules → Description → ℕ → List ℕ → List ℕ → Opened
open_answer_by rules d F footer body =
    let told = body_refusal d (tiles_of d footer) (domain_bytes d footer) body in
    cond (eqb (footer_refusal_by rules d F footer).number 0)
    (cond (eqb told.number 0) (accepted_tree (tiles_of d footer) body) (refused_in 1 told))
    (refused_in 0 (footer_refusal_by rules d F footer))

abbrev pub open_answer : Description → ℕ → List ℕ → List ℕ → Opened
open_answer = open_answer_by current

-- An accepted tree is a body that passes every check of opening, lent whole with some footer and F, and is asked with
-- the same description and with the n of that footer.
pub record Accepted (d : Description) (n : ℕ) (body : List ℕ) : Type 0 where
  pub footer : List ℕ
  pub file : ℕ
  pub passed : (open_answer d file footer body).number ≡ 0
  pub tiles : (open_answer d file footer body).tiles ≡ n
