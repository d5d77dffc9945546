-- Is a body that has the rules' shape the one that is written with its own boxes? It is, where its bytes are bytes: its fields and its counts are those that
-- the shape says, and every other byte is in a box (`body-again`).
-- Assumes nothing.
use mathlib.Core.Path.{◌≡◌, refl, sym, ◌∙◌}
use mathlib.Core.Bool.{true}
use mathlib.Core.List.{List, [], ◌++◌}
use Prim.Native.Nat.{ℕ, zero, suc, ◌+◌, ◌-◌, ◌*◌, ◌/◌, ◌%◌, ◌≤◌, ◌<◌}
use native.Mathlib.Nat.{zero-add, mul-le-mul_right, mod-eq_of_lt, div-eq_of_lt, add-mul-mod_self_left, add-mul-div_left}
use native.Mathlib.Numerals.{add-one}
use native.Mathlib.Omega.{arith}
use lib.Dec.{eqb}
use lib.ListN.{length, get_or, take, drop, length-take, length-drop, take-append-drop}
use lib.Seq.{take_all, take-add, drop-drop, drop-cons}
use borrow.Author.Tests.{eqb-true, not-false}
use Rattle.answers.specs.Refusals as refusals
use Rattle.answers.specs.Runs.{join}
use Rattle.answers.proofs.Runs.{over-ext}
use Rattle.answers.proofs.Checks.{clear, check-clear, each-clear}
use Rattle.answers.proofs.Joined.{cut-join, part_in}
use Rattle.order.specs.Little.{little, bytes_of}
use Rattle.tree.specs.Shape.{boxes, height, levels, level_start}
use Rattle.tree.proofs.Places as places
use Rattle.rtree.specs.Body.{fanout_of, count_refusal, counts_refusal, stored_count, shape_refusal, box_at}
use Rattle.rtree.proofs.Passed.{Passed}
use Rattle.written.specs.Body.{level_bytes, levels_down, body_with}

-- the bytes of the number that bytes stand for are those bytes
module _ (s : List ℕ) (byte : (i : ℕ) → get_or s i 0 < 256) where
  pub bytes-again : (at m : ℕ) → at + m ≤ length s → bytes_of m (little s at m) ≡ take m (drop at s)
  unfolding bytes_of little
  bytes-again at zero h = refl
  bytes-again at (suc m) h =
      let g = get_or s at 0 in
      let y = little s (at + 1) m in
      let low : (g + 256 * y) % 256 ≡ g = add-mul-mod_self_left g 256 y ∙ mod-eq_of_lt (byte at) in
      let high : (g + 256 * y) / 256 ≡ y = add-mul-div_left g y {y = 256} (omega arith) ∙ rw (div-eq_of_lt (byte at)) (zero-add y) in
      rw (low, high, drop-cons s at 0 (omega arith), bytes-again (at + 1) m (omega arith), add-one at)

-- bodies with the same boxes
module _ (f n : ℕ) (box other : ℕ → ℕ → List ℕ) (same : (j k : ℕ) → j ≤ height f n → k < boxes f n j → box j k ≡ other j k) where
  level-same : (j : ℕ) → j ≤ height f n → level_bytes f n box j ≡ level_bytes f n other j
  unfolding level_bytes
  level-same j h = rw (over-ext ◌++◌ [] (box j) (other j) 0 (boxes f n j) (λ k a l. same j k h (omega arith)))

  down-same : (j : ℕ) → j ≤ height f n → levels_down f n box j ≡ levels_down f n other j
  unfolding levels_down
  down-same zero h = level-same zero h
  down-same (suc j) h = rw (level-same (suc j) h, down-same j (omega arith))

  pub body_same : body_with f n box ≡ body_with f n other
  unfolding body_with
  body_same = rw (down-same (height f n) (omega arith))

-- the body from its own boxes
start-some : (f n b j : ℕ) → 8 ≤ level_start f n b j
unfolding level_start
start-some f n b j = omega arith

module _ (n b : ℕ) (body : List ℕ) (p : Passed n b body) (clear-shape : (shape_refusal n b body).number ≡ 0) where
  abbrev f : ℕ
  f = fanout_of body

  pub count-there : (j : ℕ) → j ≤ height f n → stored_count n b body j ≡ boxes f n j
  unfolding shape_refusal counts_refusal levels
  count-there j h =
      let counts = (clear _ _ (clear _ _ (clear _ _ clear-shape).1).1).0 in
      let here : height f n - (height f n - j) ≡ j = omega arith in
      let at : ℕ = height f n - (height f n - j) in
      let told = each-clear (λ l. count_refusal f n b (stored_count n b body (height f n - l)) (height f n - l)) 0 (suc (height f n)) counts
      (height f n - j) (omega arith) (omega arith) in
      let equal : eqb (stored_count n b body at) (boxes f n at) ≡ true = not-false _ (check-clear _ refusals.levels _ (omega arith) told) in
      rw here at (eqb-true (stored_count n b body at) (boxes f n at) equal)

  module _ (byte : (i : ℕ) → get_or body i 0 < 256) where
    level-again : (j : ℕ) → j ≤ height f n
        → level_bytes f n (box_at n b body) j ≡ take (8 + boxes f n j * b) (drop (level_start f n b j - 8) body)
    unfolding level_bytes
    level-again j h =
        let c = boxes f n j in
        let start = level_start f n b j in
        let inside = places.level-inside f n b j h in
        let some = start-some f n b j in
        let whole = p.whole in
        let count : bytes_of 8 c ≡ take 8 (drop (start - 8) body) =
        rw (← (count-there j h)) (bytes-again body byte (start - 8) 8 (omega arith)) in
        let level = take (c * b) (drop start body) in
        let long : length level ≡ c * b = simp (length-take, length-drop) (omega arith) in
        let parts : join (box_at n b body j) 0 c ≡ level =
        over-ext ◌++◌ [] _ (λ i. take b (drop (i * b) level)) 0 c (λ k a l.
        sym (part_in body start (k * b) b (c * b) (omega (arith, mul-le-mul_right b (below k c l)))))
        ∙ cut-join b c level long in
        let at : (start - 8) + 8 ≡ start = omega arith in
        rw (count, parts, take-add 8 (c * b) (drop (start - 8) body), drop-drop 8 (start - 8) body, at)
      where
        below : (k c : ℕ) → k < 0 + c → suc k ≤ c
        below k c l = omega arith

    down-again : (j : ℕ) → j ≤ height f n → levels_down f n (box_at n b body) j ≡ drop (level_start f n b j - 8) body
    unfolding levels_down boxes
    down-again zero h =
        let end = places.leaves-end f n b in
        level-again zero h
        ∙ take_all (8 + n * b) (drop (level_start f n b 0 - 8) body) (simp length-drop (omega (arith, p.whole, start-some f n b 0)))
    down-again (suc j) h =
        let size = 8 + boxes f n (suc j) * b in
        let start = level_start f n b (suc j) - 8 in
        let next : level_start f n b j - 8 ≡ start + size = omega (arith, places.start-down f n b j h, start-some f n b (suc j)) in
        rw (level-again (suc j) h, down-again j (omega arith), next, ← (drop-drop size start body)) (take-append-drop size (drop start body))

    pub body-again : body_with f n (box_at n b body) ≡ body
    unfolding body_with
    body-again =
        let long : 16 ≤ length body =
        omega (arith, p.whole, places.level-inside f n b (height f n) (omega arith), places.start-root f n b) in
        let at : level_start f n b (height f n) - 8 ≡ 4 + 4 = omega (arith, places.start-root f n b) in
        rw (down-again (height f n) (omega arith), ← p.leveled, bytes-again body byte 0 4 (omega arith), bytes-again body byte 4 4 (omega arith), at, ← (drop-drop 4 4 body), take-append-drop 4 (drop 4 body))
        (take-append-drop 4 body)
