-- The least box around some boxes.
-- Assumes nothing.
use Rattle.std.specs.Prelude.{ℕ, zero, suc, ◌+◌, Bool, cond, List, ◌++◌, leb, take, drop}
use Rattle.answers.specs.Runs.{join}
use Rattle.description.specs.declared.Kind.{Kind}
use Rattle.description.specs.declared.Dimension.{Dimension}
use Rattle.description.specs.Kinds.{end_bytes, key}
use Rattle.description.specs.Description.{kind_at, side_start}
use Rattle.boxes.specs.Boxes.{side_at}

-- of the numbers k, k + 1, .. , 1 + more of them, the first that is as good as any other
unfoldable pub first_best : (ℕ → ℕ → Bool) → ℕ → ℕ → ℕ
first_best as_good k zero = k
first_best as_good k (suc more) =
    let rest = first_best as_good (suc k) more in
    cond (as_good k rest) k rest

-- the first whose end, a pattern of this kind, has the lowest key
abbrev pub lowest_at : Kind → (ℕ → ℕ) → ℕ → ℕ → ℕ
lowest_at kind end = first_best (λ a b. leb (key kind (end a)) (key kind (end b)))

-- the first whose end has the highest key
abbrev pub highest_at : Kind → (ℕ → ℕ) → ℕ → ℕ → ℕ
highest_at kind end = first_best (λ a b. leb (key kind (end b)) (key kind (end a)))

module _ (kinds : List Dimension) (m : ℕ) (box : ℕ → List ℕ) where
  -- of dimension i: the bytes of the first box that has the lowest minimum, then of the first that has the highest
  -- maximum
  unfoldable pub least_side : ℕ → ℕ → ℕ → List ℕ
  least_side k more i =
      let kind = kind_at kinds i in
      let low = lowest_at kind (λ c. (side_at kinds (box c) i).low) k more in
      let high = highest_at kind (λ c. (side_at kinds (box c) i).high) k more in
      take (end_bytes kind) (drop (side_start kinds i) (box low))
      ++ take (end_bytes kind) (drop (side_start kinds i + end_bytes kind) (box high))

  -- the least box around the boxes from box k on, 1 + more of them, of m dimensions: between equal ends, as the two
  -- zeros are, the first such box's bytes are taken
  unfoldable pub around : ℕ → ℕ → List ℕ
  around k more = join (least_side k more) 0 m
