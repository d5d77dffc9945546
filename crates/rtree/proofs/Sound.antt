-- What has a body that passes besides, whatever the rules? Its fanout is within the limits and its levels and bytes are
-- those of the shape (`body-passed`), the ranges of each of its boxes are sound (`body-ranges`), and its root lies inside
-- the domain (`body-root`). An accepted tree is such a body.
-- Assumes nothing.
use mathlib.Core.Path.{◌≡◌, sym, ◌∙◌}
use mathlib.Core.Logic.{◌⊎◌, inl, inr}
use mathlib.Core.Bool.{true}
use mathlib.Core.List.{List}
use Prim.Native.Nat.{ℕ, ◌≤◌, ◌<◌}
use native.Mathlib.Nat.{eq-or-lt_of_le}
use native.Mathlib.Omega.{arith}
use borrow.Author.Tests.{not-false}
use Rattle.answers.specs.Refusals.{none}
use Rattle.answers.specs.Refusals as refusals
use Rattle.answers.proofs.Checks.{both-clear, check-clear, first-none}
use Rattle.description.specs.declared.Description.{Description}
use Rattle.description.specs.Limits.{least_tiles, most_tiles, Sizes}
use Rattle.description.specs.Description.{sides_of, bytes_of_box}
use Rattle.boxes.specs.Boxes.{ranges_refusal, box_inside, box_refusal}
use Rattle.tree.specs.Shape.{boxes, height}
use Rattle.tree.proofs.Root.{height-one}
use Rattle.footer.specs.Fields.{domain_bytes}
use Rattle.footer.proofs.Passed as footers
use Rattle.rtree.specs.Body.{fanout_of, place_of, box_at, shape_refusal}
use Rattle.rtree.specs.Opening.{root_refusal, inner_refusal, boxes_refusal, body_refusal, Accepted}
use Rattle.rtree.proofs.Passed.{Passed, passed}
use Rattle.rtree.proofs.Nested.{opened, boxes-clear, level-clear, box-clear, accepted-body}

-- a body that passes, with an n within the limits
module _ (d : Description) (n : ℕ) (domain body : List ℕ) (some : least_tiles ≤ n) (most : n ≤ most_tiles)
    (h : (body_refusal d n domain body).number ≡ 0) where
  abbrev f : ℕ
  f = fanout_of body

  abbrev b : ℕ
  b = bytes_of_box d

  abbrev m : ℕ
  m = sides_of d.dimensions

  shape-clear : (shape_refusal n b body).number ≡ 0
  unfolding body_refusal
  shape-clear = (both-clear (shape_refusal n b body) (boxes_refusal d n body domain) h).0

  root-clear : (root_refusal d n body domain).number ≡ 0
  unfolding boxes_refusal
  root-clear = (both-clear (root_refusal d n body domain) _ (boxes-clear d n body domain h)).0

  pub body-passed : Passed n (bytes_of_box d) body
  body-passed = passed n b body some most shape-clear

  -- the ranges of every box
  pub body-ranges : (j k : ℕ) → j ≤ height f n → k < boxes f n j
      → (ranges_refusal d.kinds m (box_at n b body j k) (place_of n b body j k)).number ≡ 0
  unfolding root_refusal inner_refusal box_refusal
  body-ranges j k up there = go (eq-or-lt_of_le up)
    where
      z : Sizes n f
      z = body-passed.sized

      go : (j ≡ height f n) ⊎ (j < height f n) → (ranges_refusal d.kinds m (box_at n b body j k) (place_of n b body j k)).number ≡ 0
      go (inl e) =
          let first : k ≡ 0 = omega (arith, rw e at there, height-one f n z.least z.some) in
          rw (e, first) (both-clear (ranges_refusal d.kinds m _ _) _ root-clear).0
      go (inr l) =
          (both-clear (ranges_refusal d.kinds m _ _) _
          (box-clear d n body j k there (level-clear d n body domain (boxes-clear d n body domain h) j l))).0

  -- the root lies inside the domain
  pub body-root : box_inside d.kinds m (box_at n b body (height f n) 0) domain ≡ true
  unfolding root_refusal box_refusal
  body-root =
      not-false _ (check-clear _ refusals.outside_domain _ (omega arith)
      (both-clear (ranges_refusal d.kinds m (box_at n b body (height f n) 0) _) _ root-clear).1)

-- an accepted tree
module _ (d : Description) (n : ℕ) (body : List ℕ) (a : Accepted d n body) where
  abbrev domain : List ℕ
  domain = domain_bytes d a.footer

  pub accepted-footer : footers.Passed d a.file a.footer
  accepted-footer = footers.passed d a.file a.footer (opened d a.file a.footer body a.passed).0

  limits : (least_tiles ≤ n) × (n ≤ most_tiles)
  limits =
      let tiles = sym (opened d a.file a.footer body a.passed).2 ∙ a.tiles in
      (rw tiles at accepted-footer.some-tiles, rw tiles at accepted-footer.most-tiles)

  pub accepted-shape : shape_refusal n (bytes_of_box d) body ≡ none
  unfolding shape_refusal
  accepted-shape = first-none _ (shape-clear d n domain body limits.0 limits.1 (accepted-body d n body a))

  pub accepted-passed : Passed n (bytes_of_box d) body
  accepted-passed = body-passed d n domain body limits.0 limits.1 (accepted-body d n body a)

  pub accepted-ranges : (j k : ℕ) → j ≤ height (fanout_of body) n → k < boxes (fanout_of body) n j
      → (ranges_refusal d.kinds (sides_of d.dimensions) (box_at n (bytes_of_box d) body j k) (place_of n (bytes_of_box d) body j k)).number ≡ 0
  accepted-ranges = body-ranges d n domain body limits.0 limits.1 (accepted-body d n body a)

  pub accepted-root : box_inside d.kinds (sides_of d.dimensions) (box_at n (bytes_of_box d) body (height (fanout_of body) n) 0) domain ≡ true
  accepted-root = body-root d n domain body limits.0 limits.1 (accepted-body d n body a)
