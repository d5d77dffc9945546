-- Where do the tiles' bytes lie in the data file? For offsets that start at 0, never fall and don't pass S, each tile's
-- bytes end where the next one's start and the last one's at S, so that the extents before tile i add up to its offset,
-- and all of them to S. That much is said of any such offsets, as those of an accepted list of var offsets are; in an
-- accepted list for tiles of fixed size they also rise, so that no extent is empty.
-- Assumes nothing.
use mathlib.Core.Path.{◌≡◌, sym, ap, ◌∙◌}
use mathlib.Core.Bool.{Bool, false, not, ◌||◌, cond}
use mathlib.Core.List.{List}
use Prim.Native.Nat.{ℕ, zero, suc, ◌+◌, ◌-◌, ◌≤◌, ◌<◌}
use native.Mathlib.Numerals.{add-one}
use native.Mathlib.Decide.{dec_lt}
use native.Mathlib.Omega.{arith}
use lib.Dec.{ltb, leb, eqb}
use borrow.Author.Tests.{lt-ltb, le-ltb, ltb-false, eqb-true, ne_eqb, leb-false, not-false}
use Rattle.answers.specs.Refusals.{the_tile_offsets}
use Rattle.answers.specs.Runs.{over, sum}
use Rattle.answers.specs.declared.Refusal.{Refusal}
use Rattle.answers.proofs.Runs.{Each}
use Rattle.lists.specs.declared.TileOffsets.{TileOffsets}
use Rattle.lists.specs.Lists.{entry}
use Rattle.lists.specs.Offsets.{offset_breaks, offsets_refusal, offsets_refusal_by, answered, offset_of, extent_of, EndToEnd, Extents}
use Rattle.lists.specs.VarOffsets.{var_breaks, var_offsets_refusal, var_offsets_refusal_by}
use Rattle.lists.proofs.Header.{neither, sound}
use Rattle.entries.proofs.Entries.{sum-next, header-sound, entries-sound}

-- ---- offsets that start at 0, never fall and don't pass S
pub record InOrder (n S : ℕ) (s : List ℕ) : Type 0 where
  pub some : 0 < n
  pub starts : entry s 0 ≡ 0
  pub rises : (i : ℕ) → i + 1 < n → entry s i ≤ entry s (i + 1)
  pub within : entry s (n - 1) ≤ S

module _ (n S : ℕ) (s : List ℕ) where
  offset-is : (i : ℕ) → i < n → offset_of n s i ≡ entry s i
  unfolding offset_of
  offset-is i h = rw (lt-ltb i n h)

  extent-inner : (i : ℕ) → i + 1 < n → extent_of n S s i ≡ entry s (i + 1) - entry s i
  unfolding extent_of
  extent-inner i h = rw (lt-ltb i n (omega arith), lt-ltb (i + 1) n h)

  extent-last : 0 < n → extent_of n S s (n - 1) ≡ S - entry s (n - 1)
  unfolding extent_of
  extent-last some = rw (lt-ltb (n - 1) n (omega arith), le-ltb (n - 1 + 1) n (omega arith))

module _ (n S : ℕ) (s : List ℕ) (o : InOrder n S s) where
  next-starts : (i : ℕ) → i + 1 < n → offset_of n s i + extent_of n S s i ≡ offset_of n s (i + 1)
  next-starts i h =
      rw (offset-is n S s i (omega arith), offset-is n S s (i + 1) h, extent-inner n S s i h) (omega (arith, o.rises i h))

  last-ends : offset_of n s (n - 1) + extent_of n S s (n - 1) ≡ S
  last-ends =
      let some = o.some in
      rw (offset-is n S s (n - 1) (omega arith), extent-last n S s some) (omega (arith, o.within))

  extents-before : (i : ℕ) → i < n → sum (extent_of n S s) 0 i ≡ offset_of n s i
  unfolding over
  extents-before zero h = sym (offset-is n S s 0 h ∙ o.starts)
  extents-before (suc i) h = rw (add-one i) at (step i (omega arith) (extents-before i (omega arith)))
    where
      step : (i : ℕ) → i + 1 < n → sum (extent_of n S s) 0 i ≡ offset_of n s i → sum (extent_of n S s) 0 (i + 1) ≡ offset_of n s (i + 1)
      step i h e = sum-next (extent_of n S s) i ∙ ap (λ (x : ℕ). x + extent_of n S s i) e ∙ next-starts i h

  extents-total : sum (extent_of n S s) 0 n ≡ S
  extents-total =
      let some = o.some in
      let e : n ≡ n - 1 + 1 = omega arith in
      ap (sum (extent_of n S s) 0) e
      ∙ sum-next (extent_of n S s) (n - 1)
      ∙ ap (λ (x : ℕ). x + extent_of n S s (n - 1)) (extents-before (n - 1) (omega arith))
      ∙ last-ends

  pub end_to_end : EndToEnd n S s
  end_to_end = record { total = extents-total; next = next-starts; last = last-ends }

-- ---- entries that keep to a rule of offsets: the first is 0, a later one keeps to one test and each to another
record Kept (n : ℕ) (g : ℕ → ℕ) (falls high : ℕ → Bool) : Type 0 where
  starts : 0 < n → g 0 ≡ 0
  later : (i : ℕ) → i + 1 < n → falls (i + 1) ≡ false
  below : (i : ℕ) → i < n → high i ≡ false

module _ (n : ℕ) (g : ℕ → ℕ) (falls high : ℕ → Bool) where
  rule-kept : Each (λ i. cond (eqb i 0) (not (eqb (g i) 0)) (falls i) || high i ≡ false) 0 n → Kept n g falls high
  rule-kept each = record {
    starts = λ some. eqb-true (g 0) 0 (not-false _ (neither (not (eqb (g 0) 0)) (high 0) (each 0 (omega arith) (omega arith))).0);
    later = λ i h. (neither (falls (i + 1)) (high (i + 1)) (rw (ne_eqb (i + 1) 0 (λ z. omega arith)) at (each (i + 1) (omega arith) (omega arith)))).0;
    below = λ i h. (neither (cond (eqb i 0) (not (eqb (g i) 0)) (falls i)) (high i) (each i (omega arith) (omega arith))).1;
  }

before : (i : ℕ) → i + 1 - 1 ≡ i
before i = omega arith

-- ---- starts in S bytes, and so an accepted list of var offsets
pub starts-in-order : (n S : ℕ) (s : List ℕ) → 0 < n → Each (λ i. var_breaks S (entry s) i ≡ false) 0 n → InOrder n S s
starts-in-order n S s some each =
    let kept = rule-kept n (entry s) (λ i. ltb (entry s i) (entry s (i - 1))) (λ i. ltb S (entry s i)) each in
    record {
      some = some;
      starts = kept.starts some;
      rises = λ i h. ltb-false _ _ (rw (before i) at (kept.later i h));
      within = ltb-false _ _ (kept.below (n - 1) (omega arith));
    }

pub var-extents : (n S : ℕ) (s : List ℕ) → (var_offsets_refusal n S s).number ≡ 0 → EndToEnd n S s
unfolding var_offsets_refusal_by
var-extents n S s accepted =
    let some = (sound n 8 s (header-sound _ _ n s accepted)).some in
    end_to_end n S s (starts-in-order n S s (omega arith) (entries-sound _ the_tile_offsets n s (omega arith) accepted))

-- ---- an accepted list for tiles of fixed size: the offsets rise, all of them below S
module _ (n S : ℕ) (s : List ℕ) (accepted : (offsets_refusal n S s).number ≡ 0) where
  some-tiles : 0 < n
  unfolding offsets_refusal_by
  some-tiles = (sound n 8 s (header-sound _ _ n s accepted)).some

  kept : Kept n (entry s) (λ i. leb (entry s i) (entry s (i - 1))) (λ i. leb S (entry s i))
  unfolding offsets_refusal_by
  kept = rule-kept _ _ _ _ (entries-sound (offset_breaks S (entry s)) the_tile_offsets n s (omega arith) accepted)

  rising : (i : ℕ) → i + 1 < n → entry s i < entry s (i + 1)
  rising i h = leb-false _ _ (rw (before i) at (kept.later i h))

  last-below : entry s (n - 1) < S
  last-below = leb-false _ _ (kept.below (n - 1) (omega (arith, some-tiles)))

  in_order : InOrder n S s
  in_order = record {
    some = some-tiles;
    starts = kept.starts some-tiles;
    rises = λ i h. omega (arith, rising i h);
    within = omega (arith, last-below);
  }

  none-empty : (i : ℕ) → i < n → 0 < extent_of n S s i
  none-empty i h = go (dec_lt (i + 1) n)
    where
      go : Dec (i + 1 < n) → 0 < extent_of n S s i
      go (yes l) = rw (extent-inner n S s i l) (omega (arith, rising i l))
      go (no l) =
          let e : i ≡ n - 1 = omega arith in
          rw (e, extent-last n S s (omega arith)) (omega (arith, last-below))

  pub extents : Extents n S s
  extents = record { run = end_to_end n S s in_order; some = none-empty }

-- ---- what an answer of 0 says of its refusal
pub accepted : {r : TileOffsets} (n : ℕ) (t : Refusal) → r ≡ answered n t → r.number ≡ 0 → t.number ≡ 0
accepted n t e z = sym (ap (λ (x : TileOffsets). x.number) e) ∙ z
