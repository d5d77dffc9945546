-- What a row's `Row` gives the code: every number fits, every box lies in the body, a box that meets hands over to a row
-- that has a `Row` again, and each way through `visit` comes to the walk's next state.
-- Assumes nothing.
use Prim.Native.Nat.{ℕ, suc, ◌+◌, ◌-◌, ◌*◌, ◌^◌, ◌≤◌, ◌<◌, min}
use mathlib.Core.Path.{◌≡◌, sym, ap, ◌∙◌}
use mathlib.Core.Bool.{Bool, true, false}
use mathlib.Core.List.{List}
use native.Mathlib.Omega.{arith}
use native.Mathlib.Nat.{mul-le-mul_right}
use lib.ListN.{length, get_or, set, take, drop}
use Rattle.description.specs.Limits.{most_tiles}
use Rattle.tree.specs.Shape.{boxes, children, level_start}
use Rattle.tree.specs.Code.Run.{State}
use Rattle.tree.proofs.Counts.{boxes-le, first-child, row-there}
use Rattle.tree.proofs.Places.{level-inside, box-inside}
use Rattle.tree.proofs.Steps.{run-turn, run-one, look-leaf, look-inner, look-miss, look-more, run_more}
use Rattle.tree.proofs.Limits.{root-near}
use Rattle.tree.proofs.Table.{start-at, count_at}
use Rattle.query.specs.Code.Walking.{Ground, tiles_in, meets_carried, seen, visited, walked, children_walked, Row, Box, ChildRow}

-- a box that meets, once it is looked at
pub record Met (g : Ground) (j k : ℕ) (s : State) (count : ℕ) : Type 0 where
  pub row : Row g j k 1 s
  pub one_more : count ≡ s.0 + 1
  pub meets : seen g j k ≡ true

-- looking at one box
module _ {g : Ground} {j k place : ℕ} {s : State} (box : Box g j k place s) where
  pub box-fits : place + g.b ≤ length g.body
  box-fits =
      let r = box.row in
      omega (arith, box.here, r.on.whole, box-inside g.f (tiles_in g) g.b j k r.level (omega (arith, r.there)))

  pub tile-fits : k < most_tiles
  tile-fits =
      let z = box.row.on.sizes in
      omega (arith, box.row.there, z.most, boxes-le g.f (tiles_in g) j (omega (arith, z.least)) (omega (arith, z.some)))

  pub count_fits : s.0 + 1 < 2 ^ 64
  count_fits = omega (arith, look-more g.f (tiles_in g) (seen g) j k s, rw run-one at box.row.counts)

  module _ {count : ℕ} {t : Bool} (one_more : count ≡ s.0 + 1)
      (told : t ≡ meets_carried g.kinds g.ends g.m (take g.b (drop place g.body))) where
    here : seen g j k ≡ t
    unfolding seen
    here = rw (← box.here) (sym told)

    pub missed : t ≡ false → (count, s.1, s.2) ≡ visited g j k s
    missed h = rw one_more (sym (look-miss g.f (tiles_in g) (seen g) j k s (here ∙ h)))

    pub met : t ≡ true → Met g j k s count
    met h = record { row = box.row; one_more = one_more; meets = here ∙ h }

-- a leaf that meets
module _ {g : Ground} {j k : ℕ} {s : State} {count : ℕ} (m : Met g j k s count) (leaf : j ≡ 0) where
  hits : visited g j k s ≡ (s.0 + 1, s.1 + 1, set s.2 s.1 k)
  hits = look-leaf g.f (tiles_in g) (seen g) j k s leaf m.meets

  pub found-fits : s.1 + 1 < 2 ^ 64
  found-fits = rw (run-one, hits) at m.row.finds

  pub found-one : {out : List ℕ} → out ≡ set s.2 s.1 k → (count, s.1 + 1, out) ≡ visited g j k s
  found-one e = rw (m.one_more, e) (sym hits)

-- a box that meets, above the leaves: its row of children
module _ {g : Ground} {j k : ℕ} {s : State} {count : ℕ} (m : Met g j k s count) (above : j ≡ 0 → ⊥) where
  same : children_walked g (j - 1) k (count, s.1, s.2) ≡ visited g j k s
  same = rw m.one_more (sym (look-inner g.f (tiles_in g) (seen g) j k s above m.meets))

  pub handed-over : {t : State} → t ≡ children_walked g (j - 1) k (count, s.1, s.2) → t ≡ visited g j k s
  handed-over e = e ∙ same

  pub row_below : ChildRow g (j - 1) k (count, s.1, s.2)
  row_below =
      let r = m.row in
      let up : suc (j - 1) ≡ j = omega (arith, above) in
      let k-there : k < boxes g.f (tiles_in g) (suc (j - 1)) = rw up (omega (arith, r.there)) in
      let first : k * g.f < boxes g.f (tiles_in g) (j - 1) = first-child g.f (tiles_in g) (j - 1) k (omega (arith, r.on.sizes.least)) k-there in
      record {
        on = r.on;
        level = omega (arith, r.level);
        there = row-there g.f (tiles_in g) (j - 1) k (omega (arith, first));
        counts = rw same (rw run-one at r.counts);
        finds = rw same (rw run-one at r.finds);
      }

-- where a row starts and ends, as the code works it out from the table
module _ {g : Ground} {j : ℕ} (parent : ℕ) {s : State} (row : ChildRow g j parent s) where
  pub level-near : j < 25
  level-near = omega (arith, row.level, root-near row.on.sizes)

  pub first_fits : parent * g.f ≤ most_tiles
  first_fits =
      let z = row.on.sizes in
      omega (arith, row.there, z.most, boxes-le g.f (tiles_in g) j (omega (arith, z.least)) (omega (arith, z.some)))

  pub row_fits : parent * g.f + children g.f (tiles_in g) j parent ≤ most_tiles
  row_fits =
      let z = row.on.sizes in
      omega (arith, row.there, z.most, boxes-le g.f (tiles_in g) j (omega (arith, z.least)) (omega (arith, z.some)))

  pub place_at : get_or g.table (2 * j) 0 ≡ level_start g.f (tiles_in g) g.b j
  place_at = ap (λ (t : List ℕ). get_or t (2 * j) 0) row.on.tabled ∙ (start-at row.on.sizes g.b row.on.narrow j row.level)

  pub start_fits : get_or g.table (2 * j) 0 + parent * g.f * g.b ≤ length g.body
  start_fits =
      let first : parent * g.f ≤ boxes g.f (tiles_in g) j = omega (arith, row.there) in
      omega (arith, place_at, row.on.whole, level-inside g.f (tiles_in g) g.b j row.level, mul-le-mul_right g.b first)

  module _ {len : ℕ} (some : len ≡ min g.f (get_or g.table (2 * j + 1) 0 - parent * g.f)) where
    pub the-children : len ≡ children g.f (tiles_in g) j parent
    unfolding children
    the-children =
        let count = ap (λ (t : List ℕ). get_or t (2 * j + 1) 0) row.on.tabled ∙ count_at row.on.sizes g.b row.on.narrow j row.level in
        some ∙ ap (λ (c : ℕ). min g.f (c - parent * g.f)) count

-- a turn of a row, at a place
module _ {g : Ground} {j k m place : ℕ} {s : State} (row : Row g j k m s) (some : 0 < m)
    (here : place ≡ level_start g.f (tiles_in g) g.b j + k * g.b) where
  pub turn : walked g j k m s ≡ walked g j (k + 1) (m - 1) (visited g j k s)
  turn = run-turn (λ i t. visited g j i t) k m s some

  pub row_first : Box g j k place s
  row_first =
      let more = run_more g.f (tiles_in g) (seen g) j (k + 1) (m - 1) (visited g j k s) in
      record {
        row = record {
          on = row.on;
          level = row.level;
          there = omega (arith, row.there);
          counts = rw run-one (omega (arith, rw turn at row.counts, more));
          finds = rw run-one (omega (arith, rw turn at row.finds, more));
        };
        here = here;
      }

  pub row-rest : {t : State} → t ≡ visited g j k s → Row g j (k + 1) (m - 1) t
  row-rest e = record {
    on = row.on;
    level = row.level;
    there = omega (arith, row.there);
    counts = rw (e, ← turn) row.counts;
    finds = rw (e, ← turn) row.finds;
  }
