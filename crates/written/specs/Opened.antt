-- When a body that is written counts as accepted.
-- Assumes nothing.
use Rattle.std.specs.Prelude.{ℕ, ◌≡◌, true, List}
use Rattle.description.specs.declared.Description.{Description}
use Rattle.description.specs.Description.{sides_of, bytes_of_box}
use Rattle.boxes.specs.Boxes.{box_inside}
use Rattle.tree.specs.Shape.{height, levels}
use Rattle.footer.specs.Fields.{tiles_of, domain_bytes}
use Rattle.footer.specs.Checks.{footer_refusal}
use Rattle.rtree.specs.Body.{box_at}
use Rattle.rtree.specs.Opening.{open_answer}

-- The body is accepted with any accepted footer of that n and description whose domain holds the root; the answer is n,
-- f and L.
abbrev pub Opens : Description → ℕ → ℕ → List ℕ → Type 0
Opens d n f body =
    (F : ℕ) (footer : List ℕ) → (footer_refusal d F footer).number ≡ 0 → tiles_of d footer ≡ n
    → box_inside d.kinds (sides_of d.dimensions) (box_at n (bytes_of_box d) body (height f n) 0) (domain_bytes d footer) ≡ true
    → open_answer d F footer body
    ≡ record { number = 0; place = 0; which = 0; tiles = n; fanout = f; levels = levels f n }
