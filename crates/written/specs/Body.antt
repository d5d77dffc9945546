-- The R-tree body with given boxes, and the one that is made of its leaves.
-- Assumes nothing.
use Rattle.std.specs.Prelude.{ℕ, zero, suc, ◌-◌, ◌*◌, List, ◌++◌, take, drop}
use Rattle.answers.specs.Runs.{join}
use Rattle.order.specs.Little.{bytes_of}
use Rattle.description.specs.declared.Description.{Description}
use Rattle.description.specs.Description.{sides_of, bytes_of_box}
use Rattle.boxes.specs.Least.{around}
use Rattle.tree.specs.Shape.{boxes, children, height, levels}

module _ (f n : ℕ) (box : ℕ → ℕ → List ℕ) where
  -- a level, at distance j from the leaves: a u64 count and its boxes, of which `box j k` is box k
  unfoldable pub level_bytes : ℕ → List ℕ
  level_bytes j = bytes_of 8 (boxes f n j) ++ join (box j) 0 (boxes f n j)

  -- that level and all below it
  unfoldable pub levels_down : ℕ → List ℕ
  levels_down zero = level_bytes zero
  levels_down (suc j) = level_bytes (suc j) ++ levels_down j

  -- Body: fanout u32, level number L u32, then per level, from the root's, a u64 count and its boxes.
  unfoldable pub body_with : List ℕ
  body_with = bytes_of 4 f ++ (bytes_of 4 (levels f n) ++ levels_down (height f n))

module _ (d : Description) (n f : ℕ) (leaves : List ℕ) where
  -- box k at distance j: a leaf as it is lent, and each parent the least box around its children
  unfoldable pub written_box : ℕ → ℕ → List ℕ
  written_box zero k = take (bytes_of_box d) (drop (k * bytes_of_box d) leaves)
  written_box (suc j) k = around d.kinds (sides_of d.dimensions) (written_box j) (k * f) (children f n j k - 1)

  -- the whole R-tree body
  abbrev pub written_body : List ℕ
  written_body = body_with f n written_box
