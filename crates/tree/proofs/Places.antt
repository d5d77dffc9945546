-- Where do a level's boxes stand in a body? The level at distance j starts 8j bytes and the boxes of the distances 0 to
-- j before the body's end; so a level starts where the level above it ends, and each box lies inside. And the places
-- and counts of a tree are those of its leaves' level, and then those of the tree that has the level above them for
-- leaves.
-- Assumes nothing.
use mathlib.Core.Path.{◌≡◌, refl, ap, sym}
use mathlib.Core.List.{List, [], ◌∷◌, ◌++◌}
use Prim.Native.Nat.{ℕ, zero, suc, ◌+◌, ◌-◌, ◌*◌, ◌≤◌, ◌<◌}
use native.Mathlib.Nat.{add-zero, zero-add, add_assoc, mul-le-mul_right, mul-le-mul_left}
use native.Mathlib.Omega.{arith}
use Rattle.answers.specs.Runs.{over, sum}
use Rattle.answers.proofs.Runs.{over_add}
use Rattle.tree.specs.Shape.{up, boxes, height, levels, all_boxes, boxes_above}
use Rattle.tree.specs.Shape.{level_start, body_bytes, places_and_counts}
use Rattle.tree.proofs.Counts.{boxes-le, boxes-up, boxes_to, to-more}
use Rattle.tree.proofs.Root.{height-up, at-root}

boxes-le-to : (f n j : ℕ) → boxes f n j ≤ boxes_to f n j
unfolding over
boxes-le-to f n zero = omega arith
boxes-le-to f n (suc j) = omega (arith, to-more f n j)

-- no level has more boxes than there are tiles
pub to_le : (f n j : ℕ) → 0 < f → 0 < n → boxes_to f n j ≤ suc j * n
unfolding over boxes
to_le f n zero hf hn = omega arith
to_le f n (suc j) hf hn = omega (arith, to-more f n j, to_le f n j hf hn, boxes-le f n (suc j) hf hn)

module _ (f n b : ℕ) where
  from_end : (j : ℕ) → j ≤ height f n → level_start f n b j + (8 * j + b * boxes_to f n j) ≡ body_bytes f n b
  unfolding level_start body_bytes all_boxes boxes_above levels
  from_end j h =
      let e : suc j + (height f n - j) ≡ suc (height f n) = omega arith in
      let t = over_add ◌+◌ 0 add_assoc zero-add add-zero (λ i. boxes f n i) 0 (suc j) (height f n - j) in
      omega (arith, ap (λ (x : ℕ). b * x) (rw (e, zero-add) at t))

  pub start-root : level_start f n b (height f n) ≡ 16
  unfolding level_start levels boxes_above over
  start-root =
      let p : height f n - height f n ≡ 0 = omega arith in
      let q : suc (height f n) - height f n ≡ 1 = omega arith in
      rw (p, q) (omega arith)

  pub start-down : (j : ℕ) → suc j ≤ height f n
      → level_start f n b j ≡ level_start f n b (suc j) + boxes f n (suc j) * b + 8
  unfolding level_start levels boxes_above over
  start-down j h =
      let p : height f n - j ≡ suc (height f n - suc j) = omega arith in
      rw p (omega arith)

  -- the leaves are the last
  pub leaves-end : level_start f n b 0 + b * n ≡ body_bytes f n b
  unfolding over boxes
  leaves-end = omega (arith, from_end 0 (omega arith))

  pub level-inside : (j : ℕ) → j ≤ height f n → level_start f n b j + boxes f n j * b ≤ body_bytes f n b
  level-inside j h = omega (arith, from_end j h, mul-le-mul_left b (boxes-le-to f n j))

  pub box-inside : (j k : ℕ) → j ≤ height f n → k < boxes f n j → level_start f n b j + k * b + b ≤ body_bytes f n b
  box-inside j k h a = omega (arith, level-inside j h, mul-le-mul_right b a)

  pub boxes-inside : 0 < b → all_boxes f n ≤ body_bytes f n b
  unfolding body_bytes
  boxes-inside h = omega (arith, mul-le-mul_left (all_boxes f n) h)

-- one level
module _ (f c : ℕ) (one : c ≡ 1) where
  one-height : height f c ≡ 0
  unfolding boxes
  one-height = sym (at-root f c 0 (omega arith) (omega arith))

  pub one-level : levels f c ≡ 1
  unfolding levels
  one-level = rw one-height

  pub one-box : all_boxes f c ≡ 1
  unfolding all_boxes boxes over
  one-box = rw one-level (omega arith)

  pub one-start : (b : ℕ) → level_start f c b 0 ≡ 16
  one-start b = rw one-height at (start-root f c b)

  pub places-one : (b : ℕ) → places_and_counts f c b ≡ 16 ∷ c ∷ []
  unfolding places_and_counts boxes over
  places-one b = rw (one-level, one-start b)

-- the same at every number, one further on
shift : {A : Type 0} (op : A → A → A) (e : A) (g h : ℕ → A) → ((i : ℕ) → g i ≡ h (suc i)) → (k m : ℕ)
    → over op e g k m ≡ over op e h (suc k) m
unfolding over
shift op e g h p k zero = refl
shift op e g h p k (suc m) = rw (p k, shift op e g h p (suc k) m)

-- the leaves, and the levels above them
module _ (f c : ℕ) (hf : 1 < f) (hc : 1 < c) where
  pub levels-up : levels f c ≡ suc (levels f (up f c))
  unfolding levels
  levels-up = ap suc (height-up f c hf hc)

  boxes-shift : (k m : ℕ) → sum (λ j. boxes f (up f c) j) k m ≡ sum (λ j. boxes f c j) (suc k) m
  boxes-shift = shift ◌+◌ 0 (λ j. boxes f (up f c) j) (λ j. boxes f c j) (boxes-up f c)

  pub all-boxes-up : all_boxes f c ≡ c + all_boxes f (up f c)
  unfolding all_boxes boxes over
  all-boxes-up = rw (levels-up, boxes-shift 0 (levels f (up f c)))

  start_up : (b j : ℕ) → level_start f (up f c) b j ≡ level_start f c b (suc j)
  unfolding level_start boxes_above
  start_up b j =
      let h = height f (up f c) in
      let p : suc (levels f (up f c)) - suc j ≡ levels f (up f c) - j = omega arith in
      let q : suc h - suc j ≡ h - j = omega arith in
      rw (levels-up, height-up f c hf hc, p, q, boxes-shift (suc j) (h - j))

  pub start-next : (b : ℕ) → level_start f c b 0 ≡ level_start f (up f c) b 0 + up f c * b + 8
  unfolding boxes
  start-next b = rw (start_up b 0) (start-down f c b 0 (omega (arith, height-up f c hf hc)))

  pub places-up : (b : ℕ) → places_and_counts f c b ≡ level_start f c b 0 ∷ c ∷ places_and_counts f (up f c) b
  unfolding places_and_counts boxes over
  places-up b =
      let pair : ℕ → ℕ → List ℕ = λ n j. level_start f n b j ∷ boxes f n j ∷ [] in
      rw (
        levels-up,
        shift ◌++◌ [] (pair (up f c)) (pair c) (λ j. rw (start_up b j, boxes-up f c j)) 0 (levels f (up f c)),
      )
