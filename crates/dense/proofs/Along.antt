-- One dimension that splits into whole tiles: the tiles that meet the window are one run (`along-run`), and a tile meets
-- exactly if one of its cells lies in the window (`cell-of`, `place-of`). And the cells are counted by the last of them,
-- as 2^64 of them don't fit a number (`whole-by-last`, `tiles-by-last`).
-- Assumes nothing.
use mathlib.Core.Path.{◌≡◌, refl, sym}
use mathlib.Core.Bool.{Bool, true, false, ◌&&◌, cond}
use Prim.Native.Nat.{ℕ, zero, suc, ◌+◌, ◌-◌, ◌*◌, ◌/◌, ◌%◌, ◌≤◌, ◌<◌, min, max}
use native.Mathlib.Nat.{div-add-mod', mul-le-mul_right, div-lt_iff_lt-mul, le-div_iff_mul-le, div-mul-le_self, lt-div-mul-add, mod-lt, mul-mod_left, div-eq_of_lt-le}
use native.Mathlib.Decide.{dec_le}
use native.Mathlib.Omega.{arith}
use lib.Dec.{leb, eqb}
use borrow.Author.Tests.{le-leb, lt-leb, leb-true, leb-false, eq-eqb, ne_eqb}
use Rattle.dense.specs.Code.Spans.{first_along, span_along}
use Rattle.description.proofs.Tests.{both}
use Rattle.dense.proofs.Grid.{rest}
use Rattle.dense.proofs.Rows.{Run}

pub whole-by-last : (w e : ℕ) → 0 < e → eqb ((w + 1) % e) 0 ≡ eqb (w % e) (e - 1)
whole-by-last w e some = go (dec_le (e - 1) (w % e))
  where
    go : Dec (e - 1 ≤ w % e) → eqb ((w + 1) % e) 0 ≡ eqb (w % e) (e - 1)
    go (yes h) =
        let l = mod-lt w some in
        let z : w + 1 ≡ (w / e + 1) * e = omega (arith, div-add-mod' w e) in
        rw (z, mul-mod_left (w / e + 1) e) (sym (eq-eqb (w % e) (e - 1) (omega arith)))
    go (no h) =
        let z : w + 1 ≡ w / e * e + (w % e + 1) = omega (arith, div-add-mod' w e) in
        rw (z, rest (w / e) e (w % e + 1) (omega arith), ne_eqb (w % e + 1) 0 (λ q. omega arith)) (sym (ne_eqb (w % e) (e - 1) (λ q. omega arith)))

pub tiles-by-last : (w e : ℕ) → 0 < e → (w + 1) % e ≡ 0 → (w + 1) / e ≡ w / e + 1
tiles-by-last w e some whole = go ((w + 1) / e) (div-add-mod' (w + 1) e)
  where
    go : (t : ℕ) → t * e + (w + 1) % e ≡ w + 1 → t ≡ w / e + 1
    go zero h = absurd (omega (arith, whole))
    go (suc t) h =
        let q : w / e ≡ t = div-eq_of_lt-le e (omega (arith, whole)) (omega (arith, whole)) in
        omega arith

module _ (low high e : ℕ) (ordered : low ≤ high) (some : 0 < e) (whole : (high - low + 1) % e ≡ 0) where
  abbrev tiles : ℕ
  tiles = (high - low + 1) / e

  exact : tiles * e ≡ high - low + 1
  exact = omega (arith, div-add-mod' (high - low + 1) e)

  inside : (c : ℕ) → c < tiles → low + c * e + (e - 1) ≤ high
  inside c h = omega (arith, exact, mul-le-mul_right {m = suc c} {n = tiles} e h)

  module _ (from to : ℕ) (asked : from ≤ to) where
    abbrev pub meets_at : ℕ → Bool
    meets_at c = leb (low + c * e) to && leb from (low + c * e + (e - 1))

    met : (c : ℕ) → low + c * e ≤ to → from ≤ low + c * e + (e - 1) → meets_at c ≡ true
    met c a b = rw (le-leb (low + c * e) to a, le-leb from (low + c * e + (e - 1)) b)

    too_far : (c : ℕ) → to < low + c * e → meets_at c ≡ false
    too_far c a = rw (lt-leb (low + c * e) to a)

    too-near : (c : ℕ) → low + c * e + (e - 1) < from → meets_at c ≡ false
    too-near c a = rw (lt-leb from (low + c * e + (e - 1)) a) (go (leb (low + c * e) to))
      where
        go : (b : Bool) → (b && false) ≡ false
        go true = refl
        go false = refl

    -- a cell of the tile at a place that meets
    pub cell-of : (c : ℕ) → c < tiles → meets_at c ≡ true
        → (let x = max (low + c * e) from in
        ((low ≤ x) × (x ≤ high)) × ((from ≤ x) × (x ≤ to)) × ((x - low) / e ≡ c))
    cell-of c h m =
        let t = both (leb (low + c * e) to) (leb from (low + c * e + (e - 1))) m in
        let a = leb-true (low + c * e) to t.0 in
        let b = leb-true from (low + c * e + (e - 1)) t.1 in
        let i = inside c h in
        ((omega arith, omega arith), (omega arith, omega arith), div-eq_of_lt-le e (omega arith) (omega arith))

    -- the place of the tile that has a cell
    pub place-of : (x : ℕ) → (low ≤ x) × (x ≤ high) → (from ≤ x) × (x ≤ to) → ((x - low) / e < tiles) × (meets_at ((x - low) / e) ≡ true)
    place-of x a b = (
      (div-lt_iff_lt-mul {x = x - low} {y = tiles} some).1 (omega (arith, exact)),
      met ((x - low) / e) (omega (arith, div-mul-le_self (x - low) e)) (omega (arith, lt-div-mul-add {a = x - low} some)),
    )

    hit : from ≤ high → low ≤ to → Run meets_at tiles ((from - low) / e) ((min to high - low) / e - (from - low) / e + 1)
    hit p q =
        let a = (from - low) / e in
        let b = (min to high - low) / e in
        let x = div-mul-le_self (from - low) e in
        let y = lt-div-mul-add {a = from - low} some in
        let z = div-mul-le_self (min to high - low) e in
        let u = lt-div-mul-add {a = min to high - low} some in
        let up : a ≤ b = (le-div_iff_mul-le {x = a} {y = min to high - low} some).1 (omega arith) in
        let top : b < tiles = (div-lt_iff_lt-mul {x = min to high - low} {y = tiles} some).1 (omega (arith, exact)) in
        record {
          fits = omega arith;
          before = λ i h. too-near i (omega (arith, mul-le-mul_right {m = suc i} {n = a} e h));
          within = λ i h k.
              let l : i ≤ b = omega arith in
              met i (omega (arith, mul-le-mul_right e l)) (omega (arith, mul-le-mul_right e h));
          after = λ i h k.
              let l : suc b ≤ i = omega arith in
              too_far i (omega (arith, mul-le-mul_right e l, inside i k));
        }

    pub along-run : Run meets_at tiles (first_along low high e from to) (span_along low high e from to)
    unfolding first_along span_along
    along-run = go (leb from high) (leb low to) refl refl
      where
        go : (s t : Bool) → leb from high ≡ s → leb low to ≡ t
            → Run meets_at tiles (cond (s && t) ((from - low) / e) 0) (cond (s && t) ((min to high - low) / e - (from - low) / e + 1) 0)
        go true true p q = hit (leb-true from high p) (leb-true low to q)
        go true false p q = record {
          fits = omega arith;
          before = λ i h. absurd (omega arith);
          within = λ i h k. absurd (omega arith);
          after = λ i h k. too_far i (omega (arith, leb-false low to q));
        }
        go false t p q = record {
          fits = omega arith;
          before = λ i h. absurd (omega arith);
          within = λ i h k. absurd (omega arith);
          after = λ i h k. too-near i (omega (arith, leb-false from high p, inside i k));
        }
