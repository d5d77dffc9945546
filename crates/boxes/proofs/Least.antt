-- The least box around a row of boxes. Of a row the first best is there, no other is better, and none before it is as good
-- (`best-in`, `best_of`, `best-first`), whatever is compared; and each end of the least box has the bytes of the first box whose end is the
-- outermost (`low-bytes`, `high-bytes`). So every box of the row lies inside it (`around-holds`), it lies inside every box that holds them all
-- (`around-least`), and its ranges are sound where theirs are (`around-sound`).
-- Assumes nothing.
use mathlib.Core.Path.{◌≡◌, refl, sym, ap, ◌∙◌}
use mathlib.Core.Logic.{◌⊎◌, inl, inr}
use mathlib.Core.Bool.{Bool, true, false, cond}
use mathlib.Core.List.{List}
use Prim.Native.Nat.{ℕ, zero, suc, ◌+◌, ◌≤◌, ◌<◌}
use native.Mathlib.Nat.{add-zero, eq-or-lt_of_le}
use native.Mathlib.Omega.{arith}
use lib.Dec.{leb}
use lib.ListN.{length, take, drop, length-append, length-take, length-drop}
use lib.Seq.{take_all, take_at, drop_at}
use borrow.Author.Tests.{le-leb, leb-true, leb-false}
use Rattle.answers.specs.Refusals.{none}
use Rattle.answers.proofs.Runs.{Each}
use Rattle.answers.proofs.Checks.{each-clear, all-clear}
use Rattle.description.specs.declared.Kind.{Kind}
use Rattle.description.specs.declared.Dimension.{Dimension}
use Rattle.description.specs.Kinds.{range_bytes, end_bytes, key, ordered}
use Rattle.description.specs.Description.{kind_at, side_start}
use Rattle.description.proofs.Patterns.{at-most-when}
use Rattle.description.proofs.Sides.{two_ends, start_up}
use Rattle.order.specs.Little.{little, first_of_two, second_of_two}
use Rattle.ranges.specs.Ranges.{ends, ends_at, has_nan}
use Rattle.boxes.specs.Boxes.{side_at, ranges_refusal, box_inside}
use Rattle.boxes.proofs.Boxes.{all-says, all-when}
use Rattle.boxes.proofs.Walking.{told_at}
use Rattle.boxes.specs.Least.{first_best, lowest_at, highest_at, least_side, around}
use Rattle.order.proofs.Bytes.{little-same}
use Rattle.answers.proofs.Joined.{join-length, join-part, part_in}
use Rattle.boxes.proofs.Holding.{Numbers}
use Rattle.ranges.proofs.Containing.{inside-says, inside-when, numbers}
use Rattle.verdicts.proofs.Stored.{stored-order, stored-mixed}

-- ---- the first best of a row
module _ (as_good : ℕ → ℕ → Bool) where
  pub best-in : (k more : ℕ) → (k ≤ first_best as_good k more) × (first_best as_good k more < k + suc more)
  unfolding first_best
  best-in k zero = (omega arith, omega arith)
  best-in k (suc more) = go (as_good k (first_best as_good (suc k) more)) (best-in (suc k) more)
    where
      rest : ℕ
      rest = first_best as_good (suc k) more

      go : (t : Bool) → (suc k ≤ rest) × (rest < suc k + suc more) → (k ≤ cond t k rest) × (cond t k rest < k + suc (suc more))
      go true h = (omega arith, omega arith)
      go false h = (omega arith, omega arith)

  -- none before it is as good
  pub best-first : (k more c : ℕ) → k ≤ c → c < first_best as_good k more → as_good c (first_best as_good k more) ≡ false
  unfolding first_best
  best-first k zero c a b = absurd (omega arith)
  best-first k (suc more) c a b = go (as_good k rest) refl b (best-first (suc k) more c)
    where
      rest : ℕ
      rest = first_best as_good (suc k) more

      here : (k ≡ c) ⊎ (k < c) → as_good k rest ≡ false → (k < c → as_good c rest ≡ false) → as_good c rest ≡ false
      here (inl z) e later = rw (← z) e
      here (inr l) e later = later l

      go : (t : Bool) → as_good k rest ≡ t → c < cond t k rest → (k < c → c < rest → as_good c rest ≡ false) → as_good c (cond t k rest) ≡ false
      go true e l later = absurd (omega arith)
      go false e l later = here (eq-or-lt_of_le a) e (λ h. later h l)

  module _ (any : (a b : ℕ) → as_good a b ≡ false → as_good b a ≡ true)
      (goes_on : (a b c : ℕ) → as_good a b ≡ true → as_good b c ≡ true → as_good a c ≡ true) where
    same : (a : ℕ) → as_good a a ≡ true
    same a = go (as_good a a) refl
      where
        go : (t : Bool) → as_good a a ≡ t → as_good a a ≡ true
        go true e = e
        go false e = any a a e

    -- it is as good as any
    pub best_of : (k more : ℕ) → Each (λ c. as_good (first_best as_good k more) c ≡ true) k (suc more)
    unfolding first_best
    best_of k zero c a b =
        let z : k ≡ c = omega arith in
        rw z (same c)
    best_of k (suc more) c a b =
        go (as_good k rest) refl (eq-or-lt_of_le a) (λ l. best_of (suc k) more c l (omega arith))
      where
        rest : ℕ
        rest = first_best as_good (suc k) more

        go : (t : Bool) → as_good k rest ≡ t → (k ≡ c) ⊎ (k < c) → (k < c → as_good rest c ≡ true) → as_good (cond t k rest) c ≡ true
        go true e (inl z) later = rw z (same c)
        go true e (inr l) later = goes_on k rest c e (later l)
        go false e (inl z) later = rw (← z) (any k rest e)
        go false e (inr l) later = later l

-- ---- by keys
module _ (kind : Kind) (end : ℕ → ℕ) (k more : ℕ) where
  abbrev x : ℕ → ℕ
  x c = key kind (end c)

  any : (a b : ℕ) → leb a b ≡ false → leb b a ≡ true
  any a b h = le-leb b a (omega (arith, leb-false a b h))

  goes_on : (a b c : ℕ) → leb a b ≡ true → leb b c ≡ true → leb a c ≡ true
  goes_on a b c p q = le-leb a c (omega (arith, leb-true a b p, leb-true b c q))

  pub lowest : Each (λ c. key kind (end (lowest_at kind end k more)) ≤ key kind (end c)) k (suc more)
  lowest c a b =
      leb-true _ _ (best_of _ (λ i j. any (x i) (x j)) (λ i j l. goes_on (x i) (x j) (x l)) k more c a b)

  pub lowest-first : (c : ℕ) → k ≤ c → c < lowest_at kind end k more → key kind (end (lowest_at kind end k more)) < key kind (end c)
  lowest-first c a b = leb-false _ _ (best-first _ k more c a b)

  pub highest : Each (λ c. key kind (end c) ≤ key kind (end (highest_at kind end k more))) k (suc more)
  highest c a b =
      leb-true _ _ (best_of _ (λ i j. any (x j) (x i)) (λ i j l p q. goes_on (x l) (x j) (x i) q p) k more c a b)

  pub highest-first : (c : ℕ) → k ≤ c → c < highest_at kind end k more → key kind (end c) < key kind (end (highest_at kind end k more))
  highest-first c a b = leb-false _ _ (best-first _ k more c a b)

-- the ends of a range that is there
ends_there : (k : Kind) (s : List ℕ) (at : ℕ) → at + (end_bytes k + end_bytes k) ≤ length s
    → ends_at k s at ≡ ends k (little s at (end_bytes k)) (little s (at + end_bytes k) (end_bytes k))
unfolding ends_at first_of_two second_of_two
ends_there k s at h = rw (le-leb _ _ h)

-- ---- the least box around the boxes from box k on, 1 + more of them
module _ (kinds : List Dimension) (m : ℕ) (box : ℕ → List ℕ) (k more : ℕ)
    (sized : Each (λ c. length (box c) ≡ side_start kinds m) k (suc more)) where
  -- the box whose minimum is taken, and the box whose maximum is
  abbrev pub low_box : ℕ → ℕ
  low_box i = lowest_at (kind_at kinds i) (λ c. (side_at kinds (box c) i).low) k more

  abbrev pub high_box : ℕ → ℕ
  high_box i = highest_at (kind_at kinds i) (λ c. (side_at kinds (box c) i).high) k more

  abbrev whole : List ℕ
  whole = around kinds m box k more

  pub low-in : (i : ℕ) → (k ≤ low_box i) × (low_box i < k + suc more)
  low-in i = best-in _ k more

  pub high-in : (i : ℕ) → (k ≤ high_box i) × (high_box i < k + suc more)
  high-in i = best-in _ k more

  module _ (i : ℕ) (h : i < m) where
    abbrev w : ℕ
    w = end_bytes (kind_at kinds i)

    abbrev s : ℕ
    s = side_start kinds i

    side-there : s + (w + w) ≤ side_start kinds m
    side-there = omega (arith, start_up kinds i m h, two_ends (kind_at kinds i))

    low-sized : length (box (low_box i)) ≡ side_start kinds m
    low-sized = sized (low_box i) (low-in i).0 (low-in i).1

    high-sized : length (box (high_box i)) ≡ side_start kinds m
    high-sized = sized (high_box i) (high-in i).0 (high-in i).1

    low-length : length (take w (drop s (box (low_box i)))) ≡ w
    low-length = simp (length-take, length-drop) (omega (arith, low-sized, side-there))

    high-length : length (take w (drop (s + w) (box (high_box i)))) ≡ w
    high-length = simp (length-take, length-drop) (omega (arith, high-sized, side-there))

    side-length : length (least_side kinds m box k more i) ≡ range_bytes (kind_at kinds i)
    unfolding least_side
    side-length =
        length-append (take w (drop s (box (low_box i)))) (take w (drop (s + w) (box (high_box i))))
        ∙ omega (arith, low-length, high-length, two_ends (kind_at kinds i))

  pub around-length : length whole ≡ side_start kinds m
  unfolding around side_start
  around-length = join-length (least_side kinds m box k more) (λ i. range_bytes (kind_at kinds i)) 0 m (λ i a b. side-length i (omega arith))

  module _ (i : ℕ) (h : i < m) where
    side-part : take (end_bytes (kind_at kinds i) + end_bytes (kind_at kinds i)) (drop (side_start kinds i) whole) ≡ least_side kinds m box k more i
    unfolding around side_start
    side-part =
        rw (← (two_ends (kind_at kinds i)))
        (join-part (least_side kinds m box k more) (λ j. range_bytes (kind_at kinds j)) i m h (λ j a b. side-length j (omega arith)))

    -- each end has the bytes of that box's end
    pub low-bytes : take (w i h) (drop (s i h) whole) ≡ take (w i h) (drop (s i h) (box (low_box i)))
    unfolding least_side
    low-bytes =
        let p = part_in whole (s i h) 0 (w i h) (w i h + w i h) (omega arith) in
        sym (rw (side-part, add-zero) at p) ∙ take_at (take (w i h) (drop (s i h) (box (low_box i)))) _ (w i h) (low-length i h)

    pub high-bytes : take (w i h) (drop (s i h + w i h) whole) ≡ take (w i h) (drop (s i h + w i h) (box (high_box i)))
    unfolding least_side
    high-bytes =
        let p = part_in whole (s i h) (w i h) (w i h) (w i h + w i h) (omega arith) in
        let q = drop_at (take (w i h) (drop (s i h) (box (low_box i)))) (take (w i h) (drop (s i h + w i h) (box (high_box i)))) (w i h) (low-length i h) in
        sym (rw (side-part, q) at p) ∙ take_all (w i h) _ (omega (arith, high-length i h))

    -- so its range has their ends
    pub around-side : side_at kinds whole i ≡ ends (kind_at kinds i) (side_at kinds (box (low_box i)) i).low (side_at kinds (box (high_box i)) i).high
    around-side =
        rw (
          ends_there (kind_at kinds i) whole (s i h) (omega (arith, around-length, side-there i h)),
          ends_there (kind_at kinds i) (box (low_box i)) (s i h) (omega (arith, low-sized i h, side-there i h)),
          ends_there (kind_at kinds i) (box (high_box i)) (s i h) (omega (arith, high-sized i h, side-there i h)),
          little-same whole (box (low_box i)) (s i h) (s i h) (w i h) low-bytes,
          little-same whole (box (high_box i)) (s i h + w i h) (s i h + w i h) (w i h) high-bytes,
        )

  -- no range of it has a NaN where none of theirs has, and then every box of the row lies inside it
  module _ (no_nan : Each (λ c. Numbers kinds m (box c)) k (suc more)) where
    pub around-numbers : Numbers kinds m whole
    unfolding has_nan ends_at
    around-numbers i h =
        let low = numbers (side_at kinds (box (low_box i)) i) (no_nan (low_box i) (low-in i).0 (low-in i).1 i h) in
        let high = numbers (side_at kinds (box (high_box i)) i) (no_nan (high_box i) (high-in i).0 (high-in i).1 i h) in
        ap has_nan (around-side i h) ∙ rw (low.0, high.1)

    pub around-holds : Each (λ c. box_inside kinds m (box c) whole ≡ true) k (suc more)
    unfolding box_inside ends_at
    around-holds c from to =
        all-when _ 0 m (λ i a b.
        let h : i < m = omega arith in
        let kind = kind_at kinds i in
        let low = numbers (side_at kinds (box (low_box i)) i) (no_nan (low_box i) (low-in i).0 (low-in i).1 i h) in
        let high = numbers (side_at kinds (box (high_box i)) i) (no_nan (high_box i) (high-in i).0 (high-in i).1 i h) in
        let own = numbers (side_at kinds (box c) i) (no_nan c from to i h) in
        rw (around-side i h)
        (inside-when (side_at kinds (box c) i) (ends kind (side_at kinds (box (low_box i)) i).low (side_at kinds (box (high_box i)) i).high) refl
        (at-most-when (ordered kind) (side_at kinds (box (low_box i)) i).low (side_at kinds (box c) i).low low.0 own.0
        (lowest kind (λ e. (side_at kinds (box e) i).low) k more c from to))
        (at-most-when (ordered kind) (side_at kinds (box c) i).high (side_at kinds (box (high_box i)) i).high own.1 high.1
        (highest kind (λ e. (side_at kinds (box e) i).high) k more c from to))))

  -- it lies inside every box that holds them all
  pub around-least : (outer : List ℕ) → Each (λ c. box_inside kinds m (box c) outer ≡ true) k (suc more) → box_inside kinds m whole outer ≡ true
  unfolding box_inside ends_at
  around-least outer holds =
      all-when _ 0 m (λ i a b.
      let h : i < m = omega arith in
      let low = inside-says (side_at kinds (box (low_box i)) i) (side_at kinds outer i) (all-says _ 0 m (holds (low_box i) (low-in i).0 (low-in i).1) i a b) in
      let high = inside-says (side_at kinds (box (high_box i)) i) (side_at kinds outer i) (all-says _ 0 m (holds (high_box i) (high-in i).0 (high-in i).1) i a b) in
      rw (around-side i h)
      (inside-when (ends (kind_at kinds i) (side_at kinds (box (low_box i)) i).low (side_at kinds (box (high_box i)) i).high) (side_at kinds outer i) refl
      low.1.0 high.1.1))

  -- its ranges are sound where theirs are
  module _ (at : ℕ → ℕ) (sound : Each (λ c. (ranges_refusal kinds m (box c) (at c)).number ≡ 0) k (suc more)) where
    told : (i : ℕ) → i < m → Each (λ c. (told_at kinds (box c) (at c) i).number ≡ 0) k (suc more)
    unfolding ranges_refusal
    told i h c from to = each-clear (told_at kinds (box c) (at c)) 0 m (sound c from to) i (omega arith) (omega arith)

    pub around-sound : (to : ℕ) → ranges_refusal kinds m whole to ≡ none
    unfolding ranges_refusal ends_at
    around-sound to =
        all-clear _ 0 m (λ i a b.
        let h : i < m = omega arith in
        let kind = kind_at kinds i in
        let low = told i h (low_box i) (low-in i).0 (low-in i).1 in
        let high = told i h (high_box i) (high-in i).0 (high-in i).1 in
        let first = told i h k (omega arith) (omega arith) in
        let order = stored-order kind (side_at kinds (box k) i).low (side_at kinds (box k) i).high _ _ first in
        rw (around-side i h)
        (stored-mixed kind (side_at kinds (box (low_box i)) i).low _ _ _ low _ (side_at kinds (box (high_box i)) i).high _ _ high
        (omega (
          arith,
          lowest kind (λ e. (side_at kinds (box e) i).low) k more k (omega arith) (omega arith),
          order,
          highest kind (λ e. (side_at kinds (box e) i).high) k more k (omega arith) (omega arith),
        )) _ _))
