-- Is the widened tree accepted? Where opening took the old pair just before float32 was retired, every box has sound
-- ranges and lies inside its parent; so has and so does the widened one (`widened-packed`). So it is accepted in the
-- words that a tree is that is written from its leaves (`widened-opens`). The old domain, widened, holds its root
-- (`domain-holds`).
-- Assumes nothing.
use mathlib.Core.Path.{◌≡◌, ap, ◌∙◌}
use mathlib.Core.Bool.{true}
use mathlib.Core.List.{List}
use Prim.Native.Nat.{ℕ, suc, ◌/◌, ◌≤◌, ◌<◌}
use native.Mathlib.Omega.{arith}
use lib.ListN.{length}
use borrow.Author.Tests.{eq-eqb}
use Rattle.answers.specs.declared.Refusal.{Refusal}
use Rattle.answers.proofs.Checks.{both-clear}
use Rattle.description.specs.declared.Description.{Description}
use Rattle.description.specs.Limits.{least_tiles, most_tiles}
use Rattle.description.specs.Description.{sides_of, bytes_of_box}
use Rattle.description.specs.Rules.{Rules, before}
use Rattle.boxes.specs.Boxes.{ranges_refusal, box_inside}
use Rattle.tree.specs.Shape.{boxes, height}
use Rattle.tree.proofs.Root.{height-one}
use Rattle.footer.specs.Fields.{tiles_of, domain_bytes}
use Rattle.footer.specs.Checks.{footer_refusal_by}
use Rattle.footer.proofs.Rules.{tiles-within}
use Rattle.rtree.specs.Body.{fanout_of, place_of, box_at, shape_refusal}
use Rattle.rtree.specs.Opening.{body_refusal, accepted_tree, open_answer_by}
use Rattle.rtree.proofs.Passed.{Passed}
use Rattle.rtree.proofs.Nested.{opened-by, body-nested}
use Rattle.rtree.proofs.Sound.{body-passed, body-ranges, body-root}
use Rattle.written.specs.Opened.{Opens}
use Rattle.written.proofs.Boxes.{parent-there}
use Rattle.written.proofs.Opened.{Packed, opens}
use Rattle.widened.specs.Widened.{widened_description, widened_box, widened_at, widened_body}
use Rattle.widened.proofs.Boxes.{box-sound, box-inside}
use Rattle.widened.proofs.Tree.{old-length, tree-sized}

module _ (d : Description) (n : ℕ) (domain body : List ℕ) (some : least_tiles ≤ n) (most : n ≤ most_tiles)
    (h : (body_refusal d n domain body).number ≡ 0) where
  abbrev f : ℕ
  f = fanout_of body

  abbrev b : ℕ
  b = bytes_of_box d

  abbrev m : ℕ
  m = sides_of d.dimensions

  p : Passed n (bytes_of_box d) body
  p = body-passed d n domain body some most h

  abbrev d' : Description
  d' = widened_description d

  pub widened-packed : Packed d' n f (widened_at d n body)
  unfolding bytes_of_box
  widened-packed =
      let z = p.sized in
      record {
        sizes = z;
        sized = tree-sized d n body p;
        sound = λ j k up there.
            ap (λ (r : Refusal). r.number)
            (box-sound d.kinds m (box_at n b body j k) (old-length d n body p j k up there) _ 0 (body-ranges d n domain body some most h j k up there));
        nested = λ j k below there.
            box-inside d.kinds m (box_at n b body j k) (box_at n b body (suc j) (k / f))
            (old-length d n body p j k (omega arith) there)
            (old-length d n body p (suc j) (k / f) below (parent-there f n j k (omega (arith, z.least)) there))
            ∙ body-nested d n body domain h j k below there;
      }

  -- the domain that held the root holds it, widened as it is
  pub domain-holds : length domain ≡ bytes_of_box d
      → box_inside d'.kinds m (widened_at d n body (height f n) 0) (widened_box d.kinds m domain) ≡ true
  unfolding bytes_of_box
  domain-holds whole =
      let z = p.sized in
      let one = height-one f n z.least z.some in
      box-inside d.kinds m (box_at n b body (height f n) 0) domain (old-length d n body p (height f n) 0 (omega arith) (omega arith)) whole
      ∙ body-root d n domain body some most h

-- what opening took, by any rules
pub accepted-answer : (rules : Rules) (d : Description) (F : ℕ) (footer body : List ℕ) → (open_answer_by rules d F footer body).number ≡ 0
    → open_answer_by rules d F footer body ≡ accepted_tree (tiles_of d footer) body
unfolding open_answer_by
accepted-answer rules d F footer body h =
    let was = opened-by rules d F footer body h in
    rw (eq-eqb _ 0 was.0, eq-eqb _ 0 was.1)

module _ (d : Description) (F : ℕ) (footer body : List ℕ) (h : (open_answer_by before d F footer body).number ≡ 0) where
  abbrev n : ℕ
  n = tiles_of d footer

  was : ((footer_refusal_by before d F footer).number ≡ 0) × ((body_refusal d n (domain_bytes d footer) body).number ≡ 0)
  was = let o = opened-by before d F footer body h in (o.0, o.1)

  limits : (least_tiles ≤ n) × (n ≤ most_tiles)
  limits = tiles-within before d F footer was.0

  pub opened-passed : Passed (tiles_of d footer) (bytes_of_box d) body
  opened-passed = body-passed d n (domain_bytes d footer) body limits.0 limits.1 was.1

  pub opened-shape : (shape_refusal (tiles_of d footer) (bytes_of_box d) body).number ≡ 0
  unfolding body_refusal
  opened-shape = (both-clear (shape_refusal n (bytes_of_box d) body) _ was.1).0

  pub opened-ranges : (j k : ℕ) → j ≤ height (fanout_of body) (tiles_of d footer) → k < boxes (fanout_of body) (tiles_of d footer) j
      → (ranges_refusal d.kinds (sides_of d.dimensions) (box_at (tiles_of d footer) (bytes_of_box d) body j k)
      (place_of (tiles_of d footer) (bytes_of_box d) body j k)).number ≡ 0
  opened-ranges = body-ranges d n (domain_bytes d footer) body limits.0 limits.1 was.1

  pub widened-opens : Opens (widened_description d) (tiles_of d footer) (fanout_of body) (widened_body d (tiles_of d footer) body)
  widened-opens = opens (widened-packed d n (domain_bytes d footer) body limits.0 limits.1 was.1)

  -- the old domain, of all its bytes, holds the root once both are widened
  pub root-held : length (domain_bytes d footer) ≡ bytes_of_box d
      → box_inside (widened_description d).kinds (sides_of d.dimensions) (widened_at d (tiles_of d footer) body (height (fanout_of body) (tiles_of d footer)) 0)
      (widened_box d.kinds (sides_of d.dimensions) (domain_bytes d footer)) ≡ true
  root-held = domain-holds d n (domain_bytes d footer) body limits.0 limits.1 was.1
