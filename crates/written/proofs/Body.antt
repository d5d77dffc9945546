-- What has a body that is written with given boxes? Its fields, its level counts and its boxes are read back from it as they were put in, whatever
-- the boxes are, as long as each has b bytes: a level starts where the levels above it end, and a box after those before it.
-- Assumes nothing.
use mathlib.Core.Path.{◌≡◌, refl, sym, ◌∙◌}
use mathlib.Core.List.{List, ◌++◌, append_assoc}
use Prim.Native.Nat.{ℕ, zero, suc, ◌+◌, ◌-◌, ◌*◌, ◌≤◌, ◌<◌}
use native.Mathlib.Nat.{add-zero, mul-le-mul_right}
use native.Mathlib.Omega.{arith}
use lib.ListN.{length, take, drop, length-append}
use lib.Seq.{take_all, take_at, drop_at, drop-drop}
use Rattle.answers.specs.Runs.{over, join}
use Rattle.description.specs.Limits.{least_fanout, most_fanout, Sizes}
use Rattle.description.proofs.Limits.{not-outside}
use Rattle.tree.specs.Shape.{boxes, height, levels, all_boxes, level_start, body_bytes}
use Rattle.tree.proofs.Counts.{boxes_to, to-more}
use Rattle.tree.proofs.Places.{start-root, start-down}
use Rattle.tree.proofs.Limits.{levels-most, level-sizes}
use Rattle.rtree.specs.Body.{fanout_of, levels_of, front_refusal, size_refusal, counts_refusal, stored_count, shape_refusal, box_at}
use Rattle.answers.specs.Refusals.{none}
use Rattle.answers.specs.Checks.{first}
use Rattle.answers.proofs.Checks.{all-clear}
use borrow.Author.Tests.{eq-eqb, le-ltb}
use Rattle.order.specs.Little.{bytes_of}
use Rattle.written.specs.Body.{level_bytes, levels_down, body_with}
use Rattle.answers.proofs.Joined.{join-length, join-part, part_in, sum_same}
use Rattle.order.proofs.Bytes.{bytes-length, little-found}

-- before a level's first box there is room for its count
start-some : (f n b j : ℕ) → 8 ≤ level_start f n b j
unfolding level_start
start-some f n b j = omega arith

bytes-some : (f n b : ℕ) → 8 ≤ body_bytes f n b
unfolding body_bytes
bytes-some f n b = omega arith

front-none : (size f : ℕ) → 8 ≤ size → least_fanout ≤ f → f ≤ most_fanout → front_refusal size f ≡ none
unfolding front_refusal first
front-none size f some least most = rw (le-ltb size 8 some, not-outside least_fanout most_fanout f least most)

size_none : (l whole : ℕ) → size_refusal l whole whole l ≡ none
unfolding size_refusal first
size_none l whole = rw (eq-eqb l l refl, eq-eqb whole whole refl)

-- the fields before the levels
module _ (f n : ℕ) (box : ℕ → ℕ → List ℕ) (z : Sizes n f) where
  pub body-fanout : fanout_of (body_with f n box) ≡ f
  unfolding body_with
  body-fanout =
      little-found (body_with f n box) 0 4 f (omega (arith, z.widest))
      (take_at (bytes_of 4 f) _ 4 (bytes-length 4 f))

  pub body-levels : levels_of (body_with f n box) ≡ levels f n
  unfolding body_with
  body-levels =
      little-found (body_with f n box) 4 4 (levels f n) (omega (arith, levels-most z))
      (rw (drop_at (bytes_of 4 f) (bytes_of 4 (levels f n) ++ levels_down f n box (height f n)) 4 (bytes-length 4 f))
      (take_at (bytes_of 4 (levels f n)) _ 4 (bytes-length 4 (levels f n))))

module _ (f n b : ℕ) (box : ℕ → ℕ → List ℕ) (sized : (j k : ℕ) → j ≤ height f n → k < boxes f n j → length (box j k) ≡ b) where
  abbrev body : List ℕ
  body = body_with f n box

  level-length : (j : ℕ) → j ≤ height f n → length (level_bytes f n box j) ≡ 8 + boxes f n j * b
  unfolding level_bytes
  level-length j h =
      let all = join-length (box j) (λ i. b) 0 (boxes f n j) (λ k from to. sized j k h (omega arith)) in
      rw (length-append (bytes_of 8 (boxes f n j)) (join (box j) 0 (boxes f n j)), bytes-length 8 (boxes f n j), all, sum_same b 0 (boxes f n j))

  down-length : (j : ℕ) → j ≤ height f n → length (levels_down f n box j) ≡ 8 * suc j + b * boxes_to f n j
  unfolding levels_down over
  down-length zero h = level-length zero h ∙ omega arith
  down-length (suc j) h =
      rw (length-append (level_bytes f n box (suc j)) (levels_down f n box j), level-length (suc j) h, down-length j (omega arith), to-more f n j)
      (omega arith)

  pub body-length : length body ≡ body_bytes f n b
  unfolding body_with body_bytes levels all_boxes
  body-length =
      rw (
        length-append (bytes_of 4 f) (bytes_of 4 (levels f n) ++ levels_down f n box (height f n)),
        length-append (bytes_of 4 (levels f n)) (levels_down f n box (height f n)),
        bytes-length 4 f,
        bytes-length 4 (levels f n),
        down-length (height f n) (omega arith),
      )
      (omega arith)

  -- the level at distance j stands, with those below it, where the levels above it end
  level-from : (t j : ℕ) → j + t ≡ height f n → drop (level_start f n b j - 8) body ≡ levels_down f n box j
  unfolding body_with levels_down
  level-from zero j e =
      let top : j ≡ height f n = omega arith in
      let at : level_start f n b j - 8 ≡ 8 = rw top (omega (arith, start-root f n b)) in
      let front : length (bytes_of 4 f ++ bytes_of 4 (levels f n)) ≡ 8 =
      length-append (bytes_of 4 f) (bytes_of 4 (levels f n)) ∙ omega (arith, bytes-length 4 f, bytes-length 4 (levels f n)) in
      rw (at, ← (append_assoc (bytes_of 4 f) (bytes_of 4 (levels f n)) (levels_down f n box (height f n))), top)
      (drop_at (bytes_of 4 f ++ bytes_of 4 (levels f n)) (levels_down f n box (height f n)) 8 front)
  level-from (suc t) j e =
      let c = boxes f n (suc j) in
      let at : level_start f n b j - 8 ≡ (level_start f n b (suc j) - 8) + (8 + c * b) =
      omega (arith, start-down f n b j (omega arith), start-some f n b (suc j)) in
      rw (at, ← (drop-drop (8 + c * b) (level_start f n b (suc j) - 8) body), level-from t (suc j) (omega arith))
      (drop_at (level_bytes f n box (suc j)) (levels_down f n box j) (8 + c * b) (level-length (suc j) (omega arith)))

  down-starts : (j : ℕ) → j ≤ height f n → take (8 + boxes f n j * b) (levels_down f n box j) ≡ level_bytes f n box j
  unfolding levels_down
  down-starts zero h = take_all (8 + boxes f n 0 * b) (level_bytes f n box 0) (omega (arith, level-length 0 h))
  down-starts (suc j) h = take_at (level_bytes f n box (suc j)) (levels_down f n box j) (8 + boxes f n (suc j) * b) (level-length (suc j) h)

  module _ (j : ℕ) (h : j ≤ height f n) where
    abbrev c : ℕ
    c = boxes f n j

    -- a level's bytes
    level-part : take (8 + c * b) (drop (level_start f n b j - 8) body) ≡ level_bytes f n box j
    level-part = rw (level-from (height f n - j) j (omega arith)) (down-starts j h)

    -- a part of a level
    in-level : (k m : ℕ) → 8 + k + m ≤ 8 + c * b → take m (drop (level_start f n b j + k) body) ≡ take m (drop k (join (box j) 0 c))
    unfolding level_bytes
    in-level k m l =
        let at : (level_start f n b j - 8) + (8 + k) ≡ level_start f n b j + k = omega (arith, start-some f n b j) in
        let p = part_in body (level_start f n b j - 8) (8 + k) m (8 + c * b) l in
        let q = drop_at (bytes_of 8 c) (join (box j) 0 c) 8 (bytes-length 8 c) in
        sym (rw (level-part, at) at p) ∙ rw (← (drop-drop k 8 (bytes_of 8 c ++ join (box j) 0 c)), q)

    pub level-boxes : take (c * b) (drop (level_start f n b j) body) ≡ join (box j) 0 c
    level-boxes =
        let all = join-length (box j) (λ i. b) 0 c (λ k from to. sized j k h (omega arith)) in
        rw add-zero at (in-level 0 (c * b) (omega arith)) ∙ take_all (c * b) (join (box j) 0 c) (omega (arith, all, sum_same b 0 c))

    pub level-box : (k : ℕ) → k < c → take b (drop (level_start f n b j + k * b) body) ≡ box j k
    level-box k l =
        let all = join-part (box j) (λ i. b) k c l (λ i from to. sized j i h (omega arith)) in
        in-level (k * b) b (omega (arith, mul-le-mul_right b l)) ∙ rw (sum_same b 0 k) at all

    level-count : take 8 (drop (level_start f n b j - 8) body) ≡ bytes_of 8 c
    unfolding level_bytes
    level-count =
        let p = part_in body (level_start f n b j - 8) 0 8 (8 + c * b) (omega arith) in
        sym (rw (level-part, add-zero) at p) ∙ take_at (bytes_of 8 c) (join (box j) 0 c) 8 (bytes-length 8 c)

  -- as the rules read them
  module _ (z : Sizes n f) where
    pub body-count : (j : ℕ) → j ≤ height f n → stored_count n b body j ≡ boxes f n j
    body-count j h =
        rw (body-fanout f n box z)
        (little-found body (level_start f n b j - 8) 8 (boxes f n j) (omega (arith, (level-sizes z j).most)) (level-count j h))

    pub body-box : (j k : ℕ) → j ≤ height f n → k < boxes f n j → box_at n b body j k ≡ box j k
    body-box j k h l = rw (body-fanout f n box z) (level-box j h k l)

    counts-none : counts_refusal f n b (stored_count n b body) ≡ none
    unfolding counts_refusal levels
    counts-none =
        all-clear _ 0 (levels f n) (λ l from to.
        let h : height f n - l ≤ height f n = omega arith in
        rw (body-count (height f n - l) h, eq-eqb (boxes f n (height f n - l)) _ refl))

    -- its shape is the rules'
    pub body-shape : shape_refusal n b body ≡ none
    unfolding shape_refusal first
    body-shape =
        rw (
          body-fanout f n box z,
          body-levels f n box z,
          body-length,
          front-none (body_bytes f n b) f (bytes-some f n b) z.least z.widest,
          size_none (levels f n) (body_bytes f n b),
          counts-none,
        )
