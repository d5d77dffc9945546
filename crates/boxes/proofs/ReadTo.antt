-- How many dimensions does a box test read that leaves at the first miss? One more than the number of the first that misses, or all of them where the box
-- meets. As a loop goes: what was read so far, and what would be read of the others.
-- Assumes nothing.
use mathlib.Core.Path.{◌≡◌, refl, sym, ◌∙◌}
use mathlib.Core.Bool.{Bool, true, false}
use mathlib.Core.List.{List}
use Prim.Native.Nat.{ℕ, zero, suc, ◌+◌, ◌-◌, ◌≤◌, ◌<◌}
use native.Mathlib.Nat.{add-zero, zero-add, add-suc, suc-add}
use native.Mathlib.Numerals.{add-one}
use native.Mathlib.Omega.{arith}
use Rattle.answers.proofs.Runs.{Each}
use Rattle.description.specs.declared.Dimension.{Dimension}
use Rattle.ranges.specs.Ranges.{ends_of, has_nan, meets}
use Rattle.ranges.proofs.Comparing.{nan-misses}
use Rattle.boxes.specs.declared.Side.{Side}
use Rattle.boxes.specs.Boxes.{range_in, all, read_to, side_at, box_meets, box_read}
use Rattle.boxes.proofs.Boxes.{all-says}

pub read-ext : (g h : ℕ → Bool) (k m : ℕ) → Each (λ i. g i ≡ h i) k m → read_to g k m ≡ read_to h k m
unfolding read_to
read-ext g h k zero p = refl
read-ext g h k (suc m) p =
    rw (p k (omega arith) (omega arith), read-ext g h (suc k) m (λ i a b. p i (omega arith) (omega arith)))

-- ---- the number
-- the first i pass, and the next does not
pub read-miss : (g : ℕ → Bool) (k m i : ℕ) → i < m → Each (λ j. g j ≡ true) k i → g (k + i) ≡ false → read_to g k m ≡ i + 1
unfolding read_to
read-miss g k zero i l p h = absurd (omega arith)
read-miss g k (suc m) zero l p h = rw (rw add-zero at h)
read-miss g k (suc m) (suc i) l p h =
    let rest = read-miss g (suc k) m i (omega arith) (λ j a b. p j (omega arith) (omega arith)) (rw (add-suc, ← suc-add) at h) in
    rw (p k (omega arith) (omega arith), rest) (omega arith)

-- all pass
pub read_all : (g : ℕ → Bool) (k m : ℕ) → Each (λ j. g j ≡ true) k m → read_to g k m ≡ m
unfolding read_to
read_all g k zero p = refl
read_all g k (suc m) p =
    rw (p k (omega arith) (omega arith), read_all g (suc k) m (λ j a b. p j (omega arith) (omega arith))) (omega arith)

one-fails : (g : ℕ → Bool) (m i : ℕ) → i < m → g i ≡ false → all g 0 m ≡ false
one-fails g m i l h = go (all g 0 m) refl
  where
    go : (t : Bool) → all g 0 m ≡ t → all g 0 m ≡ false
    go false e = e
    go true e =
        let passes : g i ≡ true = all-says g 0 m e i (omega arith) (omega arith) in
        cc

-- of a box, in the description's kinds
module _ (kinds : List Dimension) (m : ℕ) (bytes : List ℕ) (w : List Side) where
  abbrev at : ℕ → Bool
  at i = meets (side_at kinds bytes i) (ends_of (range_in w i))

  -- a first miss at dimension i
  pub box-read-miss : (i : ℕ) → i < m → ((j : ℕ) → j < i → at j ≡ true) → at i ≡ false
      → (box_meets kinds m bytes w ≡ false) × (box_read kinds m bytes w ≡ i + 1)
  unfolding box_meets box_read
  box-read-miss i l p h = (one-fails at m i l h, read-miss at 0 m i l (λ j a b. p j (omega arith)) (rw zero-add h))

  -- no miss
  pub box-read-all : box_meets kinds m bytes w ≡ true → box_read kinds m bytes w ≡ m
  unfolding box_meets box_read
  box-read-all h = read_all at 0 m (all-says at 0 m h)

  -- a stored range with NaN is a miss of its dimension
  pub box-nan-misses : (i : ℕ) → has_nan (side_at kinds bytes i) ≡ true → at i ≡ false
  box-nan-misses i h = nan-misses (side_at kinds bytes i) (ends_of (range_in w i)) h

-- ---- as a loop goes through n of them, with so many read before i
module _ (g : ℕ → Bool) (n : ℕ) where
  abbrev pub ReadLeft : ℕ → ℕ → Type 0
  ReadLeft read i = read_to g 0 n ≡ read + read_to g i (n - i)

  pub read-start : ReadLeft 0 0
  read-start =
      let z : n - 0 ≡ n = omega arith in
      rw (z, zero-add)

  pub read_done : (read i : ℕ) → ReadLeft read i → n ≤ i → read ≡ read_to g 0 n
  unfolding read_to
  read_done read i l h =
      let z : n - i ≡ 0 = omega arith in
      sym (l ∙ rw (z, add-zero))

  turn : (k m : ℕ) → 0 < m → {t : Bool} → t ≡ g k → t ≡ false → read_to g k m ≡ 1
  unfolding read_to
  turn k zero l e h = absurd (omega arith)
  turn k (suc m) l e h = rw (← e, h)

  next : (k m : ℕ) → 0 < m → {t : Bool} → t ≡ g k → t ≡ true → read_to g k m ≡ 1 + read_to g (k + 1) (m - 1)
  unfolding read_to
  next k zero l e h = absurd (omega arith)
  next k (suc m) l e h =
      let z : suc m - 1 ≡ m = omega arith in
      rw (← e, h, add-one, z)

  module _ (read i : ℕ) (l : ReadLeft read i) (more : i < n) {t : Bool} (e : t ≡ g i) {after : ℕ} (raised : after ≡ read + 1) where
    pub read-missed : t ≡ false → after ≡ read_to g 0 n
    read-missed h = raised ∙ sym (l ∙ rw (turn i (n - i) (omega arith) e h))

    pub read-passed : t ≡ true → ReadLeft after (i + 1)
    read-passed h =
        let z : n - (i + 1) ≡ n - i - 1 = omega arith in
        l ∙ rw (next i (n - i) (omega arith) e h, raised, z) (omega arith)
