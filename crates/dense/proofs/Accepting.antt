-- What it means that nothing was refused: each dimension splits into whole tiles, and no range is reversed (`sound`);
-- there are no more than the most tiles (`no_more`).
-- Assumes nothing.
use mathlib.Core.Path.{◌≡◌, refl}
use mathlib.Core.Bool.{Bool, true, false, not, ◌||◌, cond}
use mathlib.Core.List.{List}
use Prim.Native.Nat.{ℕ, ◌%◌, ◌≤◌, ◌<◌}
use native.Mathlib.Nat.{pos_of_ne-zero}
use native.Mathlib.Omega.{arith}
use lib.Dec.{eqb}
use lib.ListN.{get_or}
use borrow.Author.Tests.{ltb-false, eqb-true, eqb-false, not-false}
use Rattle.answers.specs.Refusals.{tiles, grid}
use Rattle.answers.proofs.Checks.{clear, check-clear, each-clear}
use Rattle.description.specs.declared.Description.{Description}
use Rattle.description.specs.Limits.{most_tiles}
use Rattle.description.specs.Description.{sides_of}
use Rattle.description.proofs.Tests.{neither}
use Rattle.ranges.specs.declared.Range.{Range}
use Rattle.ranges.specs.Ranges.{Ends, kind_of, ends_of, has_nan}
use Rattle.ranges.proofs.Comparing.{ends-kind}
use Rattle.verdicts.specs.declared.Verdict.TheVariants.{Sound, Infinite, InfiniteReversed, NotANumber, Reversed}
use Rattle.verdicts.specs.Verdicts.{verdict, has_infinity, is_reversed, asked_refusal}
use Rattle.boxes.specs.declared.Window.{Window}
use Rattle.boxes.specs.Boxes.{range_in}
use Rattle.boxes.specs.Windows.{side_refusal, window_refusal}
use Rattle.boxes.proofs.Windows.{side_told}
use Rattle.dense.specs.Grid.{product}
use Rattle.description.specs.Kinds.{is_float}
use Rattle.dense.specs.Dense.{low_key, high_key, cells, split_refusal, tiles_in, grid_refusal, dense_refusal}

-- a range that is asked with and not refused is in order
not-reversed : (e : Ends) (r : Range) (place : ℕ) → (asked_refusal (verdict e r) place).number ≡ 0 → is_reversed e ≡ false
unfolding verdict
not-reversed e r place h = go (has_nan e) (has_infinity e) (is_reversed e) h
  where
    go : (a b c : Bool)
        → (asked_refusal (cond a NotANumber (cond b (cond c InfiniteReversed (Infinite r)) (cond c Reversed (Sound r)))) place).number ≡ 0
        → c ≡ false
    go true b c h = absurd (omega arith)
    go false true true h = absurd (omega arith)
    go false true false h = refl
    go false false true h = absurd (omega arith)
    go false false false h = refl

keys-ordered : (r : Range) (place : ℕ) → (asked_refusal (verdict (ends_of r) r) place).number ≡ 0 → low_key r ≤ high_key r
unfolding low_key high_key is_reversed
keys-ordered r place h = rw (← (ends-kind r)) (ltb-false _ _ (not-reversed (ends_of r) r place h))

pub window-ordered : (d : Description) (w : Window) → (window_refusal d w).number ≡ 0 → (i : ℕ) → i < sides_of d.dimensions
    → low_key (range_in w.sides i) ≤ high_key (range_in w.sides i)
unfolding window_refusal side_refusal
window-ordered d w passed i h =
    let side = each-clear (side_told d.kinds w.sides) 0 (sides_of d.dimensions) (clear _ _ (clear _ _ passed).1).0 i (omega arith) (omega arith) in
    keys-ordered (range_in w.sides i) i (clear _ _ (clear _ _ side).1).0

-- a dimension that splits into whole tiles
pub record Whole (r : Range) (e : ℕ) : Type 0 where
  pub integer : is_float (kind_of r) ≡ false
  pub some : 0 < e
  pub exact : cells r % e ≡ 0

pub split-clear : (r : Range) (e place : ℕ) → (split_refusal r e place).number ≡ 0 → Whole r e
unfolding split_refusal
split-clear r e place h =
    let one = neither (is_float (kind_of r)) (eqb e 0 || not (eqb (cells r % e) 0)) (check-clear _ grid place (omega arith) h) in
    let two = neither (eqb e 0) (not (eqb (cells r % e) 0)) one.1 in
    record {
      integer = one.0;
      some = pos_of_ne-zero (eqb-false e 0 two.0);
      exact = eqb-true (cells r % e) 0 (not-false _ two.1);
    }

module _ (d : Description) (domain : Window) (extents : List ℕ) (passed : (grid_refusal d domain extents).number ≡ 0) where
  pub domain-ordered : (i : ℕ) → i < sides_of d.dimensions → low_key (range_in domain.sides i) ≤ high_key (range_in domain.sides i)
  unfolding grid_refusal
  domain-ordered = window-ordered d domain (clear _ _ (clear _ _ passed).1).0

  pub splits : (i : ℕ) → i < sides_of d.dimensions → (split_refusal (range_in domain.sides i) (get_or extents i 0) i).number ≡ 0
  unfolding grid_refusal
  splits i h =
      each-clear (λ j. split_refusal (range_in domain.sides j) (get_or extents j 0) j) 0 (sides_of d.dimensions)
      (clear _ _ (clear _ _ (clear _ _ passed).1).1).0 i (omega arith) (omega arith)

  pub no_more : product (tiles_in d domain extents) 0 (sides_of d.dimensions) ≤ most_tiles
  unfolding grid_refusal
  no_more = ltb-false _ _ (check-clear _ tiles 0 (omega arith) (clear _ _ (clear _ _ (clear _ _ (clear _ _ passed).1).1).1).0)

-- dimension i of the domain, its extent, and the window there
pub record Passed (r : Range) (e : ℕ) (w : Range) : Type 0 where
  pub ordered : low_key r ≤ high_key r
  pub whole : Whole r e
  pub asked : low_key w ≤ high_key w

module _ (d : Description) (domain : Window) (extents : List ℕ) (w : Window) (passed : (dense_refusal d domain extents w).number ≡ 0) where
  pub grid-passed : (grid_refusal d domain extents).number ≡ 0
  unfolding dense_refusal
  grid-passed = (clear _ _ passed).0

  pub sound : (i : ℕ) → i < sides_of d.dimensions → Passed (range_in domain.sides i) (get_or extents i 0) (range_in w.sides i)
  unfolding dense_refusal
  sound i h = record {
    ordered = domain-ordered d domain extents (clear _ _ passed).0 i h;
    whole = split-clear _ _ i (splits d domain extents (clear _ _ passed).0 i h);
    asked = window-ordered d w (clear _ _ (clear _ _ passed).1).0 i h;
  }
