-- Is what is written accepted? A body is, whose boxes have sound ranges and lie inside their parents (`Packed`), with every footer that is not
-- refused, has this n, and has a domain that holds the root (`opens_by`), whatever the rules: each check of opening is gone through in its order.
-- So it is by this library's, with the root as it is read back (`opens`).
-- Assumes nothing.
use mathlib.Core.Path.{◌≡◌, ap, ◌∙◌}
use mathlib.Core.Bool.{true}
use mathlib.Core.List.{List}
use Prim.Native.Nat.{ℕ, suc, ◌-◌, ◌/◌, ◌≤◌, ◌<◌}
use native.Mathlib.Omega.{arith}
use lib.ListN.{length}
use borrow.Author.Tests.{eq-eqb}
use Rattle.answers.specs.Refusals.{none}
use Rattle.answers.specs.Refusals as refusals
use Rattle.answers.proofs.Checks.{all-clear}
use Rattle.description.specs.declared.Dimension.{Dimension}
use Rattle.description.specs.declared.Description.{Description}
use Rattle.description.specs.Limits.{Sizes}
use Rattle.description.specs.Description.{sides_of, bytes_of_box}
use Rattle.description.specs.Rules.{Rules, current}
use Rattle.boxes.specs.Boxes.{ranges_refusal, box_inside, box_refusal}
use Rattle.tree.specs.Shape.{boxes, height, levels}
use Rattle.tree.proofs.Root.{height-one}
use Rattle.footer.specs.Fields.{tiles_of, domain_bytes}
use Rattle.footer.specs.Checks.{footer_refusal_by}
use Rattle.footer.proofs.Domain.{ranges-anywhere}
use Rattle.rtree.specs.Body.{fanout_of, box_at}
use Rattle.rtree.specs.Opening.{root_refusal, inner_refusal, level_refusal, boxes_refusal, body_refusal, open_answer_by}
use Rattle.written.specs.Body.{body_with}
use Rattle.written.specs.Opened.{Opens}
use Rattle.written.proofs.Boxes.{parent-there}
use Rattle.written.proofs.Body.{body-fanout, body-levels, body-box, body-shape}

-- a box without a fault
box-none : (kinds : List Dimension) (m : ℕ) (bytes outer : List ℕ) (number from to : ℕ)
    → (ranges_refusal kinds m bytes from).number ≡ 0 → box_inside kinds m bytes outer ≡ true → box_refusal kinds m bytes outer number to ≡ none
unfolding box_refusal
box-none kinds m bytes outer number from to sound lies = rw (ranges-anywhere kinds m bytes from to sound, lies)

-- what is asked of the boxes of a body: each has B bytes and sound ranges, and lies inside its parent
pub record Packed (d : Description) (n f : ℕ) (box : ℕ → ℕ → List ℕ) : Type 0 where
  pub sizes : Sizes n f
  pub sized : (j k : ℕ) → j ≤ height f n → k < boxes f n j → length (box j k) ≡ bytes_of_box d
  pub sound : (j k : ℕ) → j ≤ height f n → k < boxes f n j → (ranges_refusal d.kinds (sides_of d.dimensions) (box j k) 0).number ≡ 0
  pub nested : (j k : ℕ) → j < height f n → k < boxes f n j
      → box_inside d.kinds (sides_of d.dimensions) (box j k) (box (suc j) (k / f)) ≡ true

module _ {d : Description} {n f : ℕ} {box : ℕ → ℕ → List ℕ} (p : Packed d n f box) where
  abbrev body : List ℕ
  body = body_with f n box

  abbrev b : ℕ
  b = bytes_of_box d

  fanout : fanout_of body ≡ f
  fanout = body-fanout f n box p.sizes

  same-box : (j k : ℕ) → j ≤ height f n → k < boxes f n j → box_at n b body j k ≡ box j k
  same-box = body-box f n b box p.sized p.sizes

  parent-box : (j k : ℕ) → j < height f n → k < boxes f n j → box_at n b body (suc j) (k / fanout_of body) ≡ box (suc j) (k / f)
  parent-box j k below there =
      ap (λ x. box_at n b body (suc j) (k / x)) fanout ∙ same-box (suc j) (k / f) below (parent-there f n j k (omega (arith, p.sizes.least)) there)

  root-box : box_at n b body (height (fanout_of body) n) 0 ≡ box (height f n) 0
  root-box =
      ap (λ x. box_at n b body (height x n) 0) fanout
      ∙ same-box (height f n) 0 (omega arith) (omega (arith, height-one f n p.sizes.least p.sizes.some))

  inner-none : (j k : ℕ) → j < height f n → k < boxes f n j → inner_refusal d n body j k ≡ none
  unfolding inner_refusal
  inner-none j k below there =
      rw (same-box j k (omega arith) there, parent-box j k below there)
      (box-none d.kinds (sides_of d.dimensions) (box j k) (box (suc j) (k / f)) refusals.outside_parent 0 _
      (p.sound j k (omega arith) there) (p.nested j k below there))

  level-none : (j : ℕ) → j < height f n → level_refusal d n body j ≡ none
  unfolding level_refusal
  level-none j below =
      rw fanout (all-clear (inner_refusal d n body j) 0 (boxes f n j) (λ k from to. inner-none j k below (omega arith)))

  module _ (domain : List ℕ) (holds : box_inside d.kinds (sides_of d.dimensions) (box (height f n) 0) domain ≡ true) where
    root_none : root_refusal d n body domain ≡ none
    unfolding root_refusal
    root_none =
        rw root-box
        (box-none d.kinds (sides_of d.dimensions) (box (height f n) 0) domain refusals.outside_domain 0 _
        (p.sound (height f n) 0 (omega arith) (omega (arith, height-one f n p.sizes.least p.sizes.some))) holds)

    boxes-none : boxes_refusal d n body domain ≡ none
    unfolding boxes_refusal
    boxes-none =
        rw (root_none, fanout)
        (all-clear (λ l. level_refusal d n body (height f n - suc l)) 0 (height f n) (λ l from to. level-none (height f n - suc l) (omega arith)))

    pub body-none : body_refusal d n domain body ≡ none
    unfolding body_refusal
    body-none = rw (body-shape f n b box p.sized p.sizes) boxes-none

  -- With any footer that is not refused, has this n, and has a domain that holds the root, the body is accepted, with n, f and L as its answer.
  pub opens_by : (rules : Rules) (F : ℕ) (footer : List ℕ) → (footer_refusal_by rules d F footer).number ≡ 0 → tiles_of d footer ≡ n
      → box_inside d.kinds (sides_of d.dimensions) (box (height f n) 0) (domain_bytes d footer) ≡ true
      → open_answer_by rules d F footer body ≡ record { number = 0; place = 0; which = 0; tiles = n; fanout = f; levels = levels f n }
  unfolding open_answer_by
  opens_by rules F footer clear tiles holds =
      let told : body_refusal d (tiles_of d footer) (domain_bytes d footer) body ≡ none = rw tiles (body-none (domain_bytes d footer) holds) in
      rw (eq-eqb _ 0 clear, told, tiles, fanout, body-levels f n box p.sizes)

  pub opens : Opens d n f (body_with f n box)
  opens F footer clear tiles holds =
      let one = height-one f n p.sizes.least p.sizes.some in
      opens_by current F footer clear tiles (rw (same-box (height f n) 0 (omega arith) (omega arith)) at holds)
