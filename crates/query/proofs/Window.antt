-- The window as the walk carries it: one that passed its check has the description's kinds and no NaN, so what is carried has none either. A box
-- meets what is carried where it meets the window, and as many of its dimensions are read.
-- Assumes nothing.
use mathlib.Core.Path.{◌≡◌, sym, ◌∙◌}
use mathlib.Core.Bool.{Bool, true, false, ◌&&◌}
use mathlib.Core.List.{List}
use Prim.Native.Nat.{ℕ, ◌+◌, ◌*◌, ◌<◌}
use native.Mathlib.Omega.{arith}
use lib.ListN.{get_or}
use Rattle.answers.proofs.Runs.{over-ext}
use Rattle.description.specs.declared.Kind.{Kind}
use Rattle.description.specs.declared.Description.{Description}
use Rattle.description.specs.Kinds.{is_nan}
use Rattle.description.specs.Description.{kind_at, sides_of}
use Rattle.description.proofs.Tests.{neither}
use Rattle.ranges.specs.Ranges.{Ends, kind_of, ends_at, ends_of, fitted, range_of, range_at, has_nan, meets}
use Rattle.ranges.specs.declared.Range.{Range}
use Rattle.ranges.proofs.Comparing.{ends-kind}
use Rattle.ranges.proofs.Reading.{fitted-same, read-meets-left, of-meets-right}
use Rattle.boxes.specs.declared.Window.{Window}
use Rattle.boxes.specs.Boxes.{range_in, box_meets, box_read}
use Rattle.boxes.specs.Windows.{window_refusal}
use Rattle.windows.specs.Code.Carried.{carried_side, ends_of_window, Fitting}
use Rattle.windows.proofs.Carrying.{fitted-lt, carried-low, carried-high}
use Rattle.boxes.proofs.ReadTo.{read-ext}
use Rattle.boxes.proofs.Windows.{window-kind, window-number}
use Rattle.query.specs.Code.Walking.{asked_side, meets_carried, read_carried, Carries}

-- the range that was read, and the window's, which is made of what is carried
pub meets-here : (bytes : List ℕ) (byte : (j : ℕ) → get_or bytes j 0 < 256) (k : Kind) (at : ℕ) (ends : List ℕ) (i : ℕ) (r q : Range)
    → r ≡ range_at k bytes at → q ≡ range_of k (fitted k (get_or ends (2 * i) 0)) (fitted k (get_or ends (2 * i + 1) 0))
    → {t : Bool} → t ≡ meets (ends_of r) (ends_of q) → t ≡ meets (ends_at k bytes at) (carried_side k ends i)
meets-here bytes byte k at ends i r q read asked told =
    told
    ∙ rw (
      asked,
      of-meets-right k (fitted k (get_or ends (2 * i) 0)) (fitted k (get_or ends (2 * i + 1) 0)) (fitted-lt k _) (fitted-lt k _) (ends_of r),
      read,
      read-meets-left bytes byte k at,
    )

-- a side without a NaN has none at either end
pub no-nan-ends : (e : Ends) → has_nan e ≡ false → (is_nan e.kind e.low ≡ false) × (is_nan e.kind e.high ≡ false)
unfolding has_nan
no-nan-ends e h = neither (is_nan e.kind e.low) (is_nan e.kind e.high) h

module _ (d : Description) (w : Window) (passed : (window_refusal d w).number ≡ 0) where
  abbrev m : ℕ
  m = sides_of d.dimensions

  abbrev ends : List ℕ
  ends = ends_of_window w.sides m

  -- ends that fit their kinds
  abbrev pub Fit : Type 0
  Fit = Fitting (λ i. kind_of (range_in w.sides i)) ends m

  module _ (fit : Fit) where
    -- what is carried of side i is the window's
    side-here : (i : ℕ) → i < m → asked_side d.kinds ends i ≡ ends_of (range_in w.sides i)
    side-here i l =
        let r = range_in w.sides i in
        let k : kind_at d.kinds i ≡ kind_of r = sym (window-kind d w passed i l) in
        let f = fit i l in
        rw (k, fitted-same (kind_of r) _ f.0, fitted-same (kind_of r) _ f.1)
        (rw (carried-low (λ j. ends_of (range_in w.sides j)) i m l (omega arith), carried-high (λ j. ends_of (range_in w.sides j)) i m l (omega arith), ← (ends-kind r)))

    pub carries : Carries d.kinds ends m
    carries = record {
      few = omega arith;
      numbers = λ i l. rw (side-here i l) (window-number d w passed i l);
    }

    pub meets-same : (bytes : List ℕ) → meets_carried d.kinds ends m bytes ≡ box_meets d.kinds m bytes w.sides
    unfolding meets_carried box_meets
    meets-same bytes = over-ext ◌&&◌ true _ _ 0 m (λ i a l. rw (side-here i (omega arith)))

    pub read_same : (bytes : List ℕ) → read_carried d.kinds ends m bytes ≡ box_read d.kinds m bytes w.sides
    unfolding read_carried box_read
    read_same bytes = read-ext _ _ 0 m (λ i a l. rw (side-here i (omega arith)))
