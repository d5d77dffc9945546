-- The levels are written from the root's on: so many of them take so many bytes (`levels_size`), which is where the next
-- one starts, in the old body (`place_is`) as in the new one; all of them are the body's levels (`down_is`), and after
-- the fanout and the level number they are the body (`body-stored`).
-- Assumes nothing.
use mathlib.Core.Path.{◌≡◌, refl, sym, ap, ◌∙◌}
use mathlib.Core.List.{List, ◌++◌, append_assoc, append-nil}
use Prim.Native.Nat.{ℕ, zero, suc, ◌+◌, ◌-◌, ◌*◌, ◌≤◌, ◌<◌}
use native.Mathlib.Nat.{add_assoc, add-zero, zero-add}
use native.Mathlib.Numerals.{add-one}
use native.Mathlib.Omega.{arith}
use lib.ListN.{length, drop, length-append}
use lib.Seq.{sets, sets-eq}
use Rattle.answers.specs.Runs.{over, sum, join}
use Rattle.answers.proofs.Runs.{over-snoc}
use Rattle.answers.proofs.Joined.{join-length, sum_same}
use Rattle.order.specs.Little.{little, bytes_of}
use Rattle.order.proofs.Bytes.{bytes-length}
use Rattle.description.specs.declared.Description.{Description}
use Rattle.description.specs.Description.{bytes_of_box}
use Rattle.tree.specs.Shape.{boxes, height, levels, level_start, body_bytes}
use Rattle.tree.proofs.Places.{start-root, start-down, level-inside}
use Rattle.rtree.specs.Body.{fanout_of}
use Rattle.written.specs.Body.{level_bytes, levels_down, body_with}
use Rattle.widened.specs.Widened.{widened_at, widened_body}
use Rattle.widened.proofs.Tree.{tree-sized, tree-length}
use Rattle.written.proofs.Again.{count-there}
use Rattle.order.proofs.Stores.{store_both, store-next}
use Rattle.converter.specs.Code.Levels.{boxes_from, Run, Filling}

-- the bytes of the first l levels, counts and boxes
abbrev pub levels_size : ℕ → ℕ → ℕ → ℕ → ℕ
levels_size f n b l = sum (λ i. 8 + boxes f n (height f n - i) * b) 0 l

module _ (f n b : ℕ) where
  pub size-next : (l : ℕ) → levels_size f n b (l + 1) ≡ levels_size f n b l + (8 + boxes f n (height f n - l) * b)
  size-next l = rw (add-one l) (over-snoc ◌+◌ 0 add_assoc zero-add add-zero (λ i. 8 + boxes f n (height f n - i) * b) 0 l ∙ rw zero-add)

  -- the next level's boxes start after its count
  pub place_is : (l : ℕ) → l ≤ height f n → 8 + levels_size f n b l + 8 ≡ level_start f n b (height f n - l)
  unfolding over
  place_is zero h =
      let e : height f n - 0 ≡ height f n = omega arith in
      rw (e, start-root f n b)
  place_is (suc l) h =
      let e : suc (height f n - suc l) ≡ height f n - l = omega arith in
      let down = rw e at (start-down f n b (height f n - suc l) (omega arith)) in
      omega (arith, down, place_is l (omega arith), rw add-one at (size-next l))

bytes-some : (f n b : ℕ) → 8 ≤ body_bytes f n b
unfolding body_bytes
bytes-some f n b = omega arith

-- all of them
module _ (f n : ℕ) (box : ℕ → ℕ → List ℕ) where
  abbrev pub levels_to : ℕ → List ℕ
  levels_to l = join (λ i. level_bytes f n box (height f n - i)) 0 l

  down-from : (j : ℕ) → j ≤ height f n → join (λ i. level_bytes f n box (height f n - i)) (height f n - j) (suc j) ≡ levels_down f n box j
  unfolding over levels_down
  down-from zero h =
      let e : height f n - (height f n - 0) ≡ 0 = omega arith in
      rw (e, append-nil)
  down-from (suc j) h =
      let e : height f n - (height f n - suc j) ≡ suc j = omega arith in
      let s : suc (height f n - suc j) ≡ height f n - j = omega arith in
      rw (e, s) (ap (λ (r : List ℕ). level_bytes f n box (suc j) ++ r) (down-from j (omega arith)))

  pub down_is : levels_to (levels f n) ≡ levels_down f n box (height f n)
  unfolding levels
  down_is =
      let e : height f n - height f n ≡ 0 = omega arith in
      rw e at (down-from (height f n) (omega arith))

module _ {d : Description} {n old wide : ℕ} {body out : List ℕ} (z : Filling d n old wide body out) where
  abbrev f : ℕ
  f = fanout_of body

  abbrev box : ℕ → ℕ → List ℕ
  box = widened_at d n body

  level-long : (j : ℕ) → j ≤ height f n → length (level_bytes f n box j) ≡ 8 + boxes f n j * wide
  unfolding level_bytes
  level-long j h =
      let all = join-length (box j) (λ i. wide) 0 (boxes f n j) (λ k a b. tree-sized d n body z.passed j k h (omega arith) ∙ sym z.new) in
      simp length-append (omega (arith, bytes-length 8 (boxes f n j), all, sum_same wide 0 (boxes f n j)))

  levels-long : (l : ℕ) → l ≤ levels f n → length (levels_to f n box l) ≡ levels_size f n wide l
  unfolding levels
  levels-long l h = join-length _ (λ i. 8 + boxes f n (height f n - i) * wide) 0 l (λ i a b. level-long (height f n - i) (omega arith))

  module _ (l : ℕ) (h : l < levels f n) (from at : ℕ) (here : from ≡ 8 + levels_size f n old l) (there : at ≡ 8 + levels_size f n wide l) where
    below : l ≤ height f n
    unfolding levels
    below = omega arith

    abbrev j : ℕ
    j = height f n - l

    start-old : from + 8 ≡ level_start f n (bytes_of_box d) j
    start-old = rw (here, z.own) (place_is f n (bytes_of_box d) l below)

    -- its count is stored before its boxes
    pub count-is : little body from 8 ≡ boxes f n (height f n - l)
    count-is =
        let e : from ≡ level_start f n (bytes_of_box d) j - 8 = omega (arith, start-old) in
        rw e (count-there n (bytes_of_box d) body z.passed z.shaped j (omega arith))

    -- it is there, and there is room for it
    pub run-here : (count : ℕ) → count ≡ boxes f n (height f n - l) → (mid : List ℕ) → length mid ≡ length out → Run d old wide body (from + 8) mid (at + 8) count
    run-here count e mid long =
        let a = level-inside f n (bytes_of_box d) j (omega arith) in
        let b = level-inside f n wide j (omega arith) in
        record {
          own = z.own;
          new = z.new;
          there = rw (e, z.own, start-old) (omega (arith, a, z.passed.whole));
          room = rw e (omega (arith, b, place_is f n wide l below, z.room));
        }

    -- what is written is the level
    pub level-is : (count : ℕ) → count ≡ boxes f n (height f n - l) → bytes_of 8 count ++ boxes_from d body (from + 8) count ≡ level_bytes f n (widened_at d n body) (height f n - l)
    unfolding level_bytes
    level-is count e = rw (e, start-old)

    pub level-next : (first mid new : List ℕ) (count : ℕ) → count ≡ boxes f n (height f n - l) → mid ≡ sets first 8 (levels_to f n (widened_at d n body) l)
        → new ≡ sets mid at (bytes_of 8 count ++ boxes_from d body (from + 8) count)
        → new ≡ sets first 8 (levels_to f n (widened_at d n body) (l + 1))
    level-next first mid new count e m p =
        p ∙ rw (m, there, level-is count e)
        (store-next first 8 (λ i. level_bytes f n box (height f n - i)) l (levels_size f n wide l) _ (levels-long l (omega arith)) refl)

    -- both places fit
    pub next_fits : (count : ℕ) → count ≡ boxes f n (height f n - l) → (from + (8 + count * old) ≤ length body) × (at + (8 + count * wide) ≤ length out)
    next_fits count e = let r = run-here count e out refl in (omega (arith, r.there), omega (arith, r.room))

    pub from_next : (count : ℕ) → count ≡ boxes f n (height f n - l) → from + (8 + count * old) ≡ 8 + levels_size f n old (l + 1)
    from_next count e = rw (e, size-next f n old l) (omega arith)

    pub at_next : (count : ℕ) → count ≡ boxes f n (height f n - l) → at + (8 + count * wide) ≡ 8 + levels_size f n wide (l + 1)
    at_next count e = rw (e, size-next f n wide l) (omega arith)

  -- the whole
  pub body-stored : (mid end new : List ℕ) → mid ≡ sets out 0 (bytes_of 4 f) → end ≡ sets mid 4 (bytes_of 4 (levels f n))
      → new ≡ sets end 8 (levels_down f n (widened_at d n body) (height f n))
      → new ≡ widened_body d n body ++ drop (length (widened_body d n body)) out
  unfolding body_with
  body-stored mid end new m e p =
      let down = levels_down f n (widened_at d n body) (height f n) in
      let front = bytes_of 4 f ++ bytes_of 4 (levels f n) in
      let eight : length front ≡ 8 = simp length-append (omega (arith, bytes-length 4 f, bytes-length 4 (levels f n))) in
      let first : end ≡ sets out 0 front = e ∙ rw m (store_both out 0 (bytes_of 4 f) 4 (bytes_of 4 (levels f n)) (bytes-length 4 f)) in
      let all : new ≡ sets out 0 (front ++ down) = p ∙ rw first (store_both out 0 front 8 down eight) in
      let same : front ++ down ≡ widened_body d n body = append_assoc (bytes_of 4 f) (bytes_of 4 (levels f n)) down in
      let long : length (widened_body d n body) ≡ body_bytes f n wide = tree-length d n body z.passed ∙ rw z.new in
      all ∙ rw same (sets-eq (widened_body d n body) out 0 (omega (arith, long, z.room)) ∙ rw zero-add)

  pub some_bytes : 8 ≤ length out
  some_bytes = omega (arith, bytes-some (fanout_of body) n wide, z.room)

  -- in what is as long, and by the bytes of a box as they are worked out
  pub filling-as-long : {mid : List ℕ} → length mid ≡ length out → {o w : ℕ} → o ≡ old → w ≡ wide → Filling d n o w body mid
  filling-as-long e p q = record {
    own = p ∙ z.own;
    new = q ∙ z.new;
    passed = z.passed;
    shaped = z.shaped;
    room = rw q (omega (arith, z.room));
  }
