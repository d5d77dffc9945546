-- How the filling of an axis goes on: the numbers stay below the most (`end_below`), a tile of the run is held by the
-- faster axes (`held_next`), and the run is what the axis holds (`run_of`); where one axis is left, so are its rows (`rows_of`).
-- Assumes nothing.
use mathlib.Core.Path.{◌≡◌}
use mathlib.Core.List.{List, [], ◌∷◌}
use Prim.Native.Nat.{ℕ, zero, suc, ◌+◌, ◌-◌, ◌*◌, ◌≤◌, ◌<◌}
use native.Mathlib.Nat.{mul-pos, mul-le-mul_right, mul_assoc, mul-one, le-mul_of_pos_right}
use native.Mathlib.Numerals.{add-one}
use native.Mathlib.Omega.{arith}
use Rattle.answers.specs.Runs.{over, join}
use Rattle.answers.proofs.Runs.{Each}
use Rattle.description.specs.Limits.{most_tiles}
use Rattle.dense.specs.declared.Axis.{Axis}
use Rattle.dense.specs.Grid.{product}
use Rattle.dense.specs.Code.Spans.{row_of, numbers, tiles_at, first_at, span_at, numbers_of, Held, Filled}

pub product-some : (g : ℕ → ℕ) (k m : ℕ) → Each (λ j. 0 < g j) k m → 0 < product g k m
unfolding over
product-some g k zero p = omega arith
product-some g k (suc m) p =
    mul-pos (p k (omega arith) (omega arith)) (product-some g (suc k) m (λ j a b. p j (omega arith) (omega arith)))

pub filled-as : {before xs after : List ℕ} {at next : ℕ} (ys : List ℕ) → xs ≡ ys → Filled before at xs after next → Filled before at ys after next
filled-as ys e f = rw (← e) f

module _ (axes : List Axis) (k more tile : ℕ) where
  abbrev start : ℕ
  start = tile * tiles_at axes k + first_at axes k

  pub run_of : join (numbers_of axes (k + 1) more) start (start + span_at axes k - start) ≡ numbers_of axes k (more + 1) tile
  unfolding numbers
  run_of =
      let z : start + span_at axes k - start ≡ span_at axes k = omega arith in
      rw (z, add-one k, add-one more)

  pub leaf-of : more ≡ 0 → join (λ t. t ∷ []) start (start + span_at axes k - start) ≡ numbers_of axes k (more + 1) tile
  unfolding numbers
  leaf-of e =
      let z : start + span_at axes k - start ≡ span_at axes k = omega arith in
      let o : more + 1 ≡ suc zero = omega arith in
      rw (z, o)

  pub rows_of : more ≡ 1
      → join (row_of (tiles_at axes (k + 1)) (first_at axes (k + 1)) (span_at axes (k + 1))) start (start + span_at axes k - start)
      ≡ numbers_of axes k (more + 1) tile
  unfolding numbers
  rows_of e =
      let z : start + span_at axes k - start ≡ span_at axes k = omega arith in
      let o : more + 1 ≡ suc (suc zero) = omega arith in
      rw (z, o, add-one k)

  module _ (h : Held axes k more tile) where
    abbrev faster : ℕ
    faster = product (tiles_at axes) (suc k) more

    some : 0 < faster
    some = product-some (tiles_at axes) (suc k) more (λ j a b. (h.within j (omega arith) (omega arith)).1)

    rows-below : (tile + 1) * tiles_at axes k * faster ≤ most_tiles
    unfolding over
    rows-below = rw (mul_assoc (tile + 1) (tiles_at axes k) faster) h.below

    pub end_below : tile * tiles_at axes k + first_at axes k + span_at axes k ≤ most_tiles
    end_below =
        let w = h.within k (omega arith) (omega arith) in
        let p : (tile + 1) * tiles_at axes k ≤ (tile + 1) * tiles_at axes k * faster = le-mul_of_pos_right ((tile + 1) * tiles_at axes k) some in
        omega (arith, rows-below)

    -- the rows of the fastest axis
    pub rows-held : more ≡ 1
        → (first_at axes (k + 1) + span_at axes (k + 1) ≤ tiles_at axes (k + 1)) × ((start + span_at axes k) * tiles_at axes (k + 1) ≤ most_tiles)
    unfolding over
    rows-held e =
        let w = h.within k (omega arith) (omega arith) in
        let n : suc k ≡ k + 1 = omega arith in
        let z : faster ≡ tiles_at axes (k + 1) = rw (e, n) (mul-one (tiles_at axes (k + 1))) in
        let up : (start + span_at axes k) * faster ≤ (tile + 1) * tiles_at axes k * faster =
        mul-le-mul_right {m = start + span_at axes k} {n = (tile + 1) * tiles_at axes k} faster (omega arith) in
        ((h.within (k + 1) (omega arith) (omega arith)).0, rw (← z) (omega (arith, rows-below)))

    pub held_next : (t : ℕ) → 0 < more → t < tile * tiles_at axes k + first_at axes k + span_at axes k → Held axes (k + 1) (more - 1) t
    held_next t l b =
        let w = h.within k (omega arith) (omega arith) in
        let z : suc (more - 1) ≡ more = omega arith in
        let up : (t + 1) * faster ≤ (tile + 1) * tiles_at axes k * faster = mul-le-mul_right {m = t + 1} {n = (tile + 1) * tiles_at axes k} faster (omega arith) in
        record {
          few = omega (arith, h.few);
          below = rw (z, add-one k) (omega (arith, rows-below));
          within = λ j a c. h.within j (omega arith) (omega arith);
        }
