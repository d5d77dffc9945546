-- What the code tells of one dimension, from the keys of its ends: 29, the number of tiles, and the keys themselves.
-- Assumes nothing.
use mathlib.Core.Path.{◌≡◌, refl, sym, ap, ◌∙◌}
use mathlib.Core.Bool.{Bool, true, false, not, ◌&&◌, cond}
use Prim.Native.Nat.{ℕ, ◌+◌, ◌-◌, ◌/◌, ◌%◌, ◌^◌, ◌≤◌, ◌<◌, min}
use native.Mathlib.Nat.{pos_of_ne-zero}
use native.Mathlib.Decide.{dec_le}
use native.Mathlib.Omega.{arith}
use lib.Dec.{eqb, leb, ltb}
use borrow.Author.Tests.{eq-eqb, ne_eqb, le-leb, lt-leb, lt-ltb, le-ltb}
use Rattle.answers.specs.Refusals.{refusal, grid}
use Rattle.answers.specs.Checks.{check}
use Rattle.description.specs.Limits.{most_tiles}
use Rattle.description.specs.declared.Kind.{Kind}
use Rattle.description.specs.Kinds.{end_bytes, key}
use Rattle.ranges.specs.declared.Range.{Range}
use Rattle.ranges.specs.Ranges.{kind_of, fitted}
use Rattle.ranges.proofs.Reading.{fitted-same}
use Rattle.description.specs.Kinds.{is_float}
use Rattle.dense.specs.Dense.{low_key, high_key, split_refusal, tiles_along}
use Rattle.dense.specs.declared.Axis.{Axis}
use Rattle.dense.specs.Code.Spans.{capped, first_along, span_along, axis_of}
use Rattle.dense.proofs.Along.{whole-by-last, tiles-by-last}
use Rattle.dense.proofs.Accepting.{split-clear}

pub key-same : (k kind : Kind) (p pattern x : ℕ) → k ≡ kind → p ≡ pattern → p < 256 ^ end_bytes kind → x ≡ key k (fitted k p) → x ≡ key kind pattern
key-same k kind p pattern x e f h g =
    g ∙ rw e (ap (key kind) (fitted-same kind p h ∙ f))

module _ (r : Range) (e place : ℕ) where
  pub told-float : is_float (kind_of r) ≡ true → refusal grid place ≡ split_refusal r e place
  unfolding split_refusal
  told-float f = rw f

  module _ (f : is_float (kind_of r) ≡ false) where
    pub told-zero : e ≡ 0 → refusal grid place ≡ split_refusal r e place
    unfolding split_refusal
    told-zero z = rw (f, eq-eqb e 0 z)

    pub told-rest : (e ≡ 0 → ⊥) → (w : ℕ) → w ≡ high_key r - low_key r → check (not (eqb (w % e) (e - 1))) grid place ≡ split_refusal r e place
    unfolding split_refusal
    told-rest z w is = rw (f, ne_eqb e 0 z, is, whole-by-last (high_key r - low_key r) e (pos_of_ne-zero z))

  pub told-tiles : (split_refusal r e place).number ≡ 0 → (high_key r - low_key r) / e + 1 ≡ tiles_along r e
  unfolding tiles_along
  told-tiles h =
      let w = split-clear r e place h in
      sym (tiles-by-last (high_key r - low_key r) e w.some w.exact)

-- an axis, where the window meets the domain, lies below it, or above it
module _ (low high e from to tiles : ℕ) (t : tiles ≡ capped ((high - low) / e + 1)) where
  pub axis-hit : from ≤ high → low ≤ to → (x l y more s : ℕ) → x ≡ from - low → l ≡ min to high → y ≡ l - low → more ≡ y / e - x / e
      → s ≡ capped (more + 1) → ◌≡◌ {A = Axis} (record { tiles = tiles; first = x / e; span = s }) (axis_of low high e from to)
  unfolding first_along span_along
  axis-hit h k x l y more s p q r u v =
      rw (t, v, u, r, q, p, le-leb from high h, le-leb low to k)

  pub axis-below : to < low → ◌≡◌ {A = Axis} (record { tiles = tiles; first = 0; span = 0 }) (axis_of low high e from to)
  unfolding first_along span_along
  axis-below h = rw (t, lt-leb low to h) (go (leb from high))
    where
      go : (b : Bool) → ◌≡◌ {A = Axis} (record { tiles = capped ((high - low) / e + 1); first = 0; span = 0 })
          (record { tiles = capped ((high - low) / e + 1); first = cond (b && false) ((from - low) / e) 0; span = capped (cond (b && false) ((min to high - low) / e - (from - low) / e + 1) 0) })
      go true = refl
      go false = refl

  pub axis-above : high < from → ◌≡◌ {A = Axis} (record { tiles = tiles; first = 0; span = 0 }) (axis_of low high e from to)
  unfolding first_along span_along
  axis-above h = rw (t, lt-leb from high h)

pub capped-above : (x : ℕ) → ltb most_tiles (capped x) ≡ ltb most_tiles x
capped-above x = go (dec_le x most_tiles)
  where
    go : Dec (x ≤ most_tiles) → ltb most_tiles (capped x) ≡ ltb most_tiles x
    go (yes h) = rw (le-ltb most_tiles x h, le-ltb most_tiles (capped x) (omega arith))
    go (no h) = rw (lt-ltb most_tiles x (omega arith), lt-ltb most_tiles (capped x) (omega arith))
