-- What do the definitions say of tree A: f = 2, leaves [0,4] [10,14] [20,24], above them [0,14] [20,24], root [0,24],
-- boxes of 8 bytes? The rules' flat counts, and its shape as one value. All by computation.
-- Assumes nothing.
use mathlib.Core.Path.{◌≡◌, refl}
use mathlib.Core.Bool.{Bool, ◌&&◌}
use mathlib.Core.List.{List, [], ◌∷◌, ◌++◌}
use Prim.Native.Nat.{ℕ, zero, suc}
use lib.Dec.{leb}
use lib.ListN.{get_or, replicate}
use Rattle.answers.specs.Runs.{over}
use Rattle.tree.specs.Shape.{up, boxes, children, height_above, height, levels}
use Rattle.tree.specs.Shape.{all_boxes, boxes_above, level_start, body_bytes, places_and_counts, shape_of}
use Rattle.tree.specs.Flat.{inner, flat_count}

-- minima and maxima at distance 0, 1, 2
minima : ℕ → List ℕ
minima zero = 0 ∷ 10 ∷ 20 ∷ []
minima (suc zero) = 0 ∷ 20 ∷ []
minima (suc (suc j)) = 0 ∷ []

maxima : ℕ → List ℕ
maxima zero = 4 ∷ 14 ∷ 24 ∷ []
maxima (suc zero) = 14 ∷ 24 ∷ []
maxima (suc (suc j)) = 24 ∷ []

-- its minimum is at most the query's maximum and the query's minimum at most its maximum
A : ℕ → ℕ → ℕ → ℕ → Bool
A least most j k = leb (get_or (minima j) k 0) most && leb least (get_or (maxima j) k 0)

-- 1 + 2 + (2 + 1) and 1 + 2 + 2
flat-counts : (flat_count 2 3 (A 12 21) ≡ 6) × (flat_count 2 3 (A 5 9) ≡ 5)
unfolding inner A minima maxima over children height height_above boxes up
flat-counts = (refl, refl)

-- three levels, six boxes, 80 bytes; the leaves stand at 56, the boxes above them at 32, the root at 16
shape-a : shape_of 2 3 8
    ≡ record { levels = 3; boxes = 6; bytes = 80; table = (56 ∷ 3 ∷ 32 ∷ 2 ∷ 16 ∷ 1 ∷ []) ++ replicate 44 0 }
unfolding shape_of places_and_counts level_start boxes_above body_bytes all_boxes levels height height_above boxes up over
shape-a = refl
