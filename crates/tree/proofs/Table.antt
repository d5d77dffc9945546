-- What is in the table of the levels? A level's place and count are stored before those of the levels above it; so the
-- whole is the list of all places and counts, laid over zeros, and the numbers at 2j and 2j + 1 are those of distance
-- j.
-- Assumes nothing.
use mathlib.Core.Path.{◌≡◌, refl, ◌∙◌}
use mathlib.Core.Bool.{true}
use mathlib.Core.List.{List, [], ◌∷◌}
use Prim.Native.Nat.{ℕ, zero, suc, ◌+◌, ◌*◌, ◌≤◌, ◌<◌}
use native.Mathlib.Nat.{zero-add, add-zero, add-suc, suc-add}
use native.Mathlib.Numerals.{add-one}
use native.Mathlib.Decide.{dec_le}
use native.Mathlib.Omega.{arith}
use lib.ListN.{length, get_or, set, replicate, get_or-eq_default}
use lib.ListN.{length-append, length-take, length-drop, length-replicate, get_or-replicate}
use lib.Seq.{sets, set_comm, take-nil}
use Rattle.answers.specs.Laid.{laid}
use Rattle.answers.specs.Runs.{over, join}
use Rattle.description.specs.Limits.{most_tiles, Sizes}
use Rattle.tree.specs.Shape.{up, boxes, height, levels, all_boxes, level_start, body_bytes}
use Rattle.tree.specs.Shape.{most_box_bytes, outside_limits, places_and_counts, shape_of}
use Rattle.tree.proofs.Counts.{boxes-le}
use Rattle.tree.proofs.Places.{places-one, places-up}
use Rattle.tree.proofs.Limits.{inside-limits, root-near}

-- a store before a run of stores may come first
sets-comm : (l vs : List ℕ) (i k v : ℕ) → i < k → set (sets l k vs) i v ≡ sets (set l i v) k vs
sets-comm l [] i k v h = refl
sets-comm l (x ∷ vs) i k v h =
    sets-comm (set l k x) vs i (suc k) v (omega arith) ∙ rw (set_comm l k i x v (λ e. omega arith))

-- the root's place and count, and those of a level below it, stored as code stores them
pub store-root : (l : List ℕ) (f b c d : ℕ) → c ≡ 1
    → set (set l (2 * d + 1) c) (2 * d) 16 ≡ sets l (2 * d) (places_and_counts f c b)
store-root l f b c d one =
    rw (places-one f c one b, add-one, set_comm l (suc (2 * d)) (2 * d) c 16 (λ e. omega arith))

pub store-level : (l : List ℕ) (f b c d : ℕ) → 1 < f → 1 < c
    → set (sets (set l (2 * d + 1) c) (2 * (d + 1)) (places_and_counts f (up f c) b)) (2 * d) (level_start f c b 0)
    ≡ sets l (2 * d) (places_and_counts f c b)
store-level l f b c d hf hc =
    let v = level_start f c b 0 in
    let next : 2 * (d + 1) ≡ suc (suc (2 * d)) = omega arith in
    rw (
      places-up f c hf hc b,
      next,
      add-one (2 * d),
      sets-comm (set l (suc (2 * d)) c) (places_and_counts f (up f c) b) (2 * d) (suc (suc (2 * d))) v (omega arith),
      set_comm l (suc (2 * d)) (2 * d) c v (λ e. omega arith),
    )

-- a list laid over zeros is that list, and then zeros
laid-at : (xs : List ℕ) (m i : ℕ) → i < m → get_or (laid xs (replicate m 0)) i 0 ≡ get_or xs i 0
laid-at [] m i h = rw (take-nil, get_or-replicate {A = ℕ} m i 0 0 h)
laid-at (x ∷ xs) zero i h = absurd (omega arith)
laid-at (x ∷ xs) (suc m) zero h = refl
laid-at (x ∷ xs) (suc m) (suc i) h = laid-at xs m i (omega arith)

-- g k, h k, g (k + 1), h (k + 1), .. , m pairs
module _ (g h : ℕ → ℕ) where
  abbrev pairs : ℕ → ℕ → List ℕ
  pairs = join (λ j. g j ∷ h j ∷ [])

  pair-at : (k m j : ℕ) → j < m → (get_or (pairs k m) (2 * j) 0 ≡ g (k + j)) × (get_or (pairs k m) (2 * j + 1) 0 ≡ h (k + j))
  unfolding over
  pair-at k zero j l = absurd (omega arith)
  pair-at k (suc m) zero l = (rw add-zero, rw add-zero)
  pair-at k (suc m) (suc j) l =
      let p : 2 * suc j + 1 ≡ suc (suc (2 * j + 1)) = omega arith in
      let q : 2 * suc j ≡ suc (suc (2 * j)) = omega arith in
      rw (p, q, add-suc k j, ← (suc-add k j)) (pair-at (suc k) m j (omega arith))

  pair-past : (k m j : ℕ) → m ≤ j → (get_or (pairs k m) (2 * j) 0 ≡ 0) × (get_or (pairs k m) (2 * j + 1) 0 ≡ 0)
  unfolding over
  pair-past k zero j l = (refl, refl)
  pair-past k (suc m) zero l = absurd (omega arith)
  pair-past k (suc m) (suc j) l =
      let p : 2 * suc j + 1 ≡ suc (suc (2 * j + 1)) = omega arith in
      let q : 2 * suc j ≡ suc (suc (2 * j)) = omega arith in
      rw (p, q) (pair-past (suc k) m j (omega arith))

-- the value
pub shape-outside : (f n b : ℕ) → outside_limits f n b ≡ true
    → record { levels = 0; boxes = 0; bytes = 0; table = replicate 50 0 } ≡ shape_of f n b
unfolding shape_of
shape-outside f n b e = rw e

module _ {n f : ℕ} (z : Sizes n f) (b : ℕ) (w : b ≤ most_box_bytes) where
  pub shape-inside : shape_of f n b
      ≡ record {
        levels = levels f n;
        boxes = all_boxes f n;
        bytes = body_bytes f n b;
        table = laid (places_and_counts f n b) (replicate 50 0);
      }
  unfolding shape_of
  shape-inside = rw (inside-limits z b w)

  pub shape-levels : (shape_of f n b).levels ≡ levels f n
  shape-levels = rw shape-inside

  pub shape-boxes : (shape_of f n b).boxes ≡ all_boxes f n
  shape-boxes = rw shape-inside

  pub shape-bytes : (shape_of f n b).bytes ≡ body_bytes f n b
  shape-bytes = rw shape-inside

  -- the table
  pub table-length : length (shape_of f n b).table ≡ 50
  table-length =
      rw (shape-inside, length-append, length-take, length-drop, length-replicate {A = ℕ} 50 0) (omega arith)

  table_at : (i : ℕ) → i < 50 → get_or (shape_of f n b).table i 0 ≡ get_or (places_and_counts f n b) i 0
  table_at i h = rw shape-inside (laid-at (places_and_counts f n b) 50 i h)

  level-at : (j : ℕ) → j ≤ height f n
      → (get_or (shape_of f n b).table (2 * j) 0 ≡ level_start f n b j) × (get_or (shape_of f n b).table (2 * j + 1) 0 ≡ boxes f n j)
  unfolding places_and_counts levels
  level-at j h =
      let p = pair-at (λ i. level_start f n b i) (λ i. boxes f n i) 0 (levels f n) j (omega arith) in
      let near : j ≤ 24 = omega (arith, root-near z) in
      (table_at (2 * j) (omega arith) ∙ p.0 ∙ rw zero-add, table_at (2 * j + 1) (omega arith) ∙ p.1 ∙ rw zero-add)

  pub start-at : (j : ℕ) → j ≤ height f n → get_or (shape_of f n b).table (2 * j) 0 ≡ level_start f n b j
  start-at j h = (level-at j h).0

  pub count_at : (j : ℕ) → j ≤ height f n → get_or (shape_of f n b).table (2 * j + 1) 0 ≡ boxes f n j
  count_at j h = (level-at j h).1

  -- past the root
  pub past-root : (j : ℕ) → height f n < j
      → (get_or (shape_of f n b).table (2 * j) 0 ≡ 0) × (get_or (shape_of f n b).table (2 * j + 1) 0 ≡ 0)
  unfolding places_and_counts levels
  past-root j h = go (dec_le j 24)
    where
      go : Dec (j ≤ 24) → (get_or (shape_of f n b).table (2 * j) 0 ≡ 0) × (get_or (shape_of f n b).table (2 * j + 1) 0 ≡ 0)
      go (yes a) =
          let p = pair-past (λ i. level_start f n b i) (λ i. boxes f n i) 0 (levels f n) j (omega arith) in
          (table_at (2 * j) (omega arith) ∙ p.0, table_at (2 * j + 1) (omega arith) ∙ p.1)
      go (no a) = (
        get_or-eq_default (shape_of f n b).table 0 (omega (arith, table-length)),
        get_or-eq_default (shape_of f n b).table 0 (omega (arith, table-length)),
      )

  pub count_most : (j : ℕ) → get_or (shape_of f n b).table (2 * j + 1) 0 ≤ most_tiles
  count_most j = go (dec_le j (height f n))
    where
      go : Dec (j ≤ height f n) → get_or (shape_of f n b).table (2 * j + 1) 0 ≤ most_tiles
      go (yes a) = omega (arith, count_at j a, boxes-le f n j (omega arith) z.some, z.most)
      go (no a) = omega (arith, (past-root j (omega arith)).1)

-- what holds of two levels' places and counts holds of them as they are read
pub as_read : (P : ℕ → ℕ → ℕ → ℕ → Type 0) {a b c d a' b' c' d' : ℕ} → a ≡ a' → b ≡ b' → c ≡ c' → d ≡ d'
    → P a b c d → P a' b' c' d'
as_read P p q r s h = rw (← p, ← q, ← r, ← s) h
