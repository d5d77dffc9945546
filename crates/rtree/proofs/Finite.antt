-- Are there infinities in an accepted tree? None: no check refused, and those of a stored box refuse an end that is NaN or infinite. So every box
-- of the tree is finite (`finite-boxes`), and so is the domain of the footer that it was opened with (`finite-domain`).
-- Assumes nothing.
use mathlib.Core.Path.{◌≡◌}
use mathlib.Core.Bool.{true}
use mathlib.Core.List.{List}
use Prim.Native.Nat.{ℕ, ◌≤◌, ◌<◌}
use Rattle.description.specs.declared.Description.{Description}
use Rattle.description.specs.Description.{sides_of, bytes_of_box}
use Rattle.boxes.specs.Boxes.{box_finite}
use Rattle.boxes.proofs.Boxes.{box-finite}
use Rattle.tree.specs.Shape.{boxes, height}
use Rattle.footer.specs.Fields.{start, domain_bytes}
use Rattle.rtree.specs.Body.{fanout_of, place_of, box_at}
use Rattle.rtree.specs.Opening.{Accepted}
use Rattle.rtree.proofs.Sound.{accepted-footer, accepted-ranges}

module _ (d : Description) (n : ℕ) (body : List ℕ) (a : Accepted d n body) where
  pub finite-domain : box_finite d.kinds (sides_of d.dimensions) (domain_bytes d a.footer) ≡ true
  finite-domain =
      box-finite d.kinds (sides_of d.dimensions) (domain_bytes d a.footer) (start d a.footer "domain")
      (accepted-footer d n body a).ranges

  pub finite-boxes : (j k : ℕ) → j ≤ height (fanout_of body) n → k < boxes (fanout_of body) n j
      → box_finite d.kinds (sides_of d.dimensions) (box_at n (bytes_of_box d) body j k) ≡ true
  finite-boxes j k most there =
      box-finite d.kinds (sides_of d.dimensions) (box_at n (bytes_of_box d) body j k) (place_of n (bytes_of_box d) body j k)
      (accepted-ranges d n body a j k most there)
