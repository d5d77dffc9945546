-- The body is filled from the leaves up: once the level at distance j is written, the buffer has from that level on what the
-- body has there, and past the body what it had at first (`Down`). It begins with the leaves (`begun`), goes on by a level
-- that is made of the one below it (`above`), and ends with the fanout and the level number (`ended`).
-- Assumes nothing.
use mathlib.Core.Path.{◌≡◌, refl, sym, ap, ◌∙◌}
use mathlib.Core.List.{List, [], ◌++◌, append_assoc, append-nil}
use Prim.Native.Nat.{ℕ, zero, suc, ◌+◌, ◌-◌, ◌*◌, ◌≤◌, ◌<◌}
use native.Mathlib.Nat.{mul-le-mul_right}
use native.Mathlib.Omega.{arith}
use lib.Dec.{leb}
use lib.ListN.{length, drop, length-append, length-drop}
use lib.Seq.{sets, sets-eq, length-sets, take-append-le, drop-append-le, drop_at, drop-drop}
use Rattle.answers.specs.Runs.{join}
use Rattle.answers.proofs.Runs.{over-ext}
use Rattle.answers.proofs.Joined.{join-length, join-part, sum_same, cut-join}
use Rattle.order.specs.Little.{bytes_of}
use Rattle.order.proofs.Bytes.{bytes-length}
use Rattle.description.specs.declared.Dimension.{Dimension}
use Rattle.description.specs.declared.Description.{Description}
use Rattle.description.specs.Kinds.{key}
use Rattle.description.specs.Description.{kind_at, side_start, sides_of, bytes_of_box}
use Rattle.description.proofs.Sides.{two_ends, start_up}
use Rattle.boxes.specs.Boxes.{side_at}
use Rattle.boxes.specs.Least.{lowest_at, highest_at, least_side, around}
use Rattle.boxes.proofs.Holding.{ranges-numbers}
use Rattle.boxes.proofs.Least.{best-in}
use Rattle.tree.specs.Shape.{boxes, children, height, levels, level_start, body_bytes}
use Rattle.tree.proofs.Counts.{first-child}
use Rattle.tree.proofs.Places.{start-root, start-down, leaves-end, level-inside}
use Rattle.written.specs.Body.{level_bytes, levels_down, body_with, written_box, written_body}
use Rattle.written.proofs.Boxes.{box-sized, box-numbers}
use Rattle.leaves.specs.Code.Sound.{box_in}
use Rattle.leaves.proofs.Ends.{ends-part}
use Rattle.writer.specs.Code.Rows.{parent_of, level_of, NoNan, Levels, Filling}
use Rattle.order.proofs.Stores.{drop-from, store_both}
use Rattle.writer.proofs.Choosing.{best-same}

-- the boxes of a row decide the least box around it
module _ (kinds : List Dimension) (m : ℕ) (box other : ℕ → List ℕ) (k more : ℕ)
    (same : (c : ℕ) → k ≤ c → c < k + suc more → box c ≡ other c) where
  side_same : (i : ℕ) → least_side kinds m box k more i ≡ least_side kinds m other k more i
  unfolding least_side
  side_same i =
      let kind = kind_at kinds i in
      let low = lowest_at kind (λ c. (side_at kinds (other c) i).low) k more in
      let high = highest_at kind (λ c. (side_at kinds (other c) i).high) k more in
      let p : lowest_at kind (λ c. (side_at kinds (box c) i).low) k more ≡ low =
      best-same _ _ k more (λ x y xl xh yl yh. rw (same x xl xh, same y yl yh)) in
      let q : highest_at kind (λ c. (side_at kinds (box c) i).high) k more ≡ high =
      best-same _ _ k more (λ x y xl xh yl yh. rw (same x xl xh, same y yl yh)) in
      let l = best-in (λ x y. leb (key kind (side_at kinds (other x) i).low) (key kind (side_at kinds (other y) i).low)) k more in
      let h = best-in (λ x y. leb (key kind (side_at kinds (other y) i).high) (key kind (side_at kinds (other x) i).high)) k more in
      rw (p, q, same low l.0 l.1, same high h.0 h.1)

  around-same : around kinds m box k more ≡ around kinds m other k more
  unfolding around
  around-same = over-ext ◌++◌ [] _ _ 0 m (λ i a b. side_same i)

-- before a level's first box there is room for its count
pub start-some : (f n b j : ℕ) → 8 ≤ level_start f n b j
unfolding level_start
start-some f n b j = omega arith

-- the buffer held `first`, and holds `out`
pub record Down (d : Description) (n f : ℕ) (leaves first : List ℕ) (j : ℕ) (out : List ℕ) : Type 0 where
  pub long : length out ≡ length first
  pub holds : drop (level_start f n (bytes_of_box d) j - 8) out
      ≡ levels_down f n (written_box d n f leaves) j ++ drop (body_bytes f n (bytes_of_box d)) first

module _ (d : Description) (n f : ℕ) (leaves first : List ℕ) (z : Filling d n f leaves first) where
  abbrev Filled : ℕ → List ℕ → Type 0
  Filled = Down d n f leaves first

  abbrev b : ℕ
  b = bytes_of_box d

  abbrev box : ℕ → ℕ → List ℕ
  box = written_box d n f leaves

  abbrev past : List ℕ
  past = drop (body_bytes f n (bytes_of_box d)) first

  hf : 0 < f
  hf = omega (arith, z.sizes.least)

  sized : (j k : ℕ) → k < boxes f n j → length (box j k) ≡ b
  sized = box-sized d n f leaves hf z.whole

  boxes-long : (j : ℕ) → length (join (box j) 0 (boxes f n j)) ≡ boxes f n j * b
  boxes-long j = join-length (box j) (λ k. b) 0 (boxes f n j) (λ k from to. sized j k (omega arith)) ∙ sum_same b 0 (boxes f n j)

  level-long : (j : ℕ) → length (level_bytes f n box j) ≡ 8 + boxes f n j * b
  unfolding level_bytes
  level-long j = simp length-append (omega (arith, bytes-length 8 (boxes f n j), boxes-long j))

  -- the leaves
  leaves-level : bytes_of 8 n ++ leaves ≡ levels_down f n box 0
  unfolding levels_down level_bytes boxes written_box
  leaves-level = rw (cut-join b n leaves z.whole)

  leaves-long : level_start f n b 0 - 8 + length (bytes_of 8 n ++ leaves) ≡ body_bytes f n b
  leaves-long =
      simp length-append (omega (arith, bytes-length 8 n, z.whole, leaves-end f n b, start-some f n b 0))

  pub begun : (mid out : List ℕ) → mid ≡ sets first (level_start f n b 0 - 8) (bytes_of 8 n) → out ≡ sets mid (level_start f n b 0) leaves → Filled 0 out
  begun mid out e p =
      let at : level_start f n b 0 - 8 + 8 ≡ level_start f n b 0 = omega (arith, start-some f n b 0) in
      let one : out ≡ sets first (level_start f n b 0 - 8) (bytes_of 8 n ++ leaves) =
      p
      ∙ rw e
      (ap (λ (x : ℕ). sets (sets first (level_start f n b 0 - 8) (bytes_of 8 n)) x leaves) (sym at)
      ∙ store_both first (level_start f n b 0 - 8) (bytes_of 8 n) 8 leaves (bytes-length 8 n)) in
      record {
        long = ap length one ∙ simp length-sets;
        holds =
            ap (drop (level_start f n b 0 - 8)) one
            ∙ drop-from first (level_start f n b 0 - 8) (bytes_of 8 n ++ leaves) (omega (arith, leaves-long, z.room))
            ∙ rw (leaves-long, leaves-level);
      }

  -- the level at distance j stands at its place
  lower : ℕ → List ℕ
  lower zero = []
  lower (suc j) = levels_down f n box j

  down_is : (j : ℕ) → levels_down f n box j ≡ level_bytes f n box j ++ lower j
  unfolding levels_down lower
  down_is zero = sym (append-nil (level_bytes f n box 0))
  down_is (suc j) = refl

  module _ (j : ℕ) (out : List ℕ) (down : Filled j out) where
    boxes-from : drop (level_start f n b j) out ≡ join (box j) 0 (boxes f n j) ++ (lower j ++ past)
    unfolding level_bytes
    boxes-from =
        let at : level_start f n b j ≡ level_start f n b j - 8 + 8 = omega (arith, start-some f n b j) in
        let count = bytes_of 8 (boxes f n j) in
        rw (at, ← (drop-drop 8 (level_start f n b j - 8) out), down.holds, down_is j, append_assoc, append_assoc)
        (drop_at count (join (box j) 0 (boxes f n j) ++ (lower j ++ past)) 8 (bytes-length 8 (boxes f n j)))

    box-from : (k : ℕ) → k < boxes f n j → box_in (drop (level_start f n b j) out) b k ≡ box j k
    box-from k h =
        let all = join (box j) 0 (boxes f n j) in
        let long = boxes-long j in
        let inside = mul-le-mul_right b h in
        let here = join-part (box j) (λ i. b) k (boxes f n j) h (λ i from to. sized j i (omega arith)) in
        rw (
          boxes-from,
          drop-append-le (k * b) all (lower j ++ past) (omega (arith, long, inside)),
          take-append-le b (drop (k * b) all) (lower j ++ past) (simp length-drop (omega (arith, long, inside))),
        )
        (rw (sum_same b 0 k) at here)

    -- the level above it is made of it
    parent-same : (k : ℕ) → k < boxes f n (suc j) → parent_of d f (drop (level_start f n b j) out) (boxes f n j) k ≡ box (suc j) k
    unfolding written_box children
    parent-same k h =
        around-same d.kinds (sides_of d.dimensions) _ (box j) (k * f) _
        (λ c from to. box-from c (omega (arith, first-child f n j k hf h)))

    level-same : level_of d f (drop (level_start f n b j) out) (boxes f n j) (boxes f n (suc j)) ≡ level_bytes f n box (suc j)
    unfolding level_of level_bytes
    level-same =
        ap (λ (l : List ℕ). bytes_of 8 (boxes f n (suc j)) ++ l)
        (over-ext ◌++◌ [] _ _ 0 (boxes f n (suc j)) (λ k from to. parent-same k (omega arith)))

    module _ (h : j < height f n) where
      -- both levels are there
      pub levels-there : Levels out b f (level_start f n b (suc j)) (boxes f n (suc j)) (level_start f n b j) (boxes f n j)
      unfolding boxes
      levels-there = record {
        least = hf;
        counted = start-some f n b (suc j);
        rounded = refl;
        before = omega (arith, start-down f n b j h);
        there = omega (arith, level-inside f n b j (omega arith), down.long, z.room);
      }

      -- and no range of the lower one has a NaN
      pub level-numbers : NoNan d (drop (level_start f n b j) out) 0 (boxes f n j)
      unfolding bytes_of_box
      level-numbers i m c from to =
          let rest = drop (level_start f n b j) out in
          let kind = kind_at d.kinds i in
          let inside : c < boxes f n j = omega arith in
          let there : c * b + b ≤ length rest = simp length-drop (omega (arith, levels-there.there, mul-le-mul_right b inside)) in
          let same = ends-part kind rest (c * b) b (side_start d.kinds i)
          (omega (arith, start_up d.kinds i (sides_of d.dimensions) m, two_ends kind)) there in
          rw (← same, box-from c inside)
          (box-numbers d n f leaves hf z.whole (λ k l. ranges-numbers d.kinds (sides_of d.dimensions) _ _ (z.sound k l)) j c inside i m)

      pub above : (new : List ℕ)
          → new ≡ sets out (level_start f n b (suc j) - 8) (level_of d f (drop (level_start f n b j) out) (boxes f n j) (boxes f n (suc j)))
          → Filled (suc j) new
      unfolding levels_down
      above new e =
          let at = level_start f n b (suc j) - 8 in
          let bytes = level_bytes f n box (suc j) in
          let one : new ≡ sets out at bytes = e ∙ rw level-same in
          let next : at + length bytes ≡ level_start f n b j - 8 =
          omega (arith, level-long (suc j), start-down f n b j h, start-some f n b (suc j)) in
          let room = level-inside f n b j (omega arith) in
          record {
            long = ap length one ∙ simp length-sets down.long;
            holds =
                ap (drop at) one
                ∙ drop-from out at bytes (omega (arith, next, room, down.long, z.room))
                ∙ rw (next, down.holds) (sym (append_assoc bytes (levels_down f n box j) past));
          }

  -- the fanout and the level number
  pub ended : (out mid new : List ℕ) → Filled (height f n) out → mid ≡ sets out 0 (bytes_of 4 f) → new ≡ sets mid 4 (bytes_of 4 (levels f n))
      → new ≡ written_body d n f leaves ++ past
  unfolding body_with
  ended out mid new down e p =
      let front = bytes_of 4 f ++ bytes_of 4 (levels f n) in
      let eight : length front ≡ 8 = simp length-append (omega (arith, bytes-length 4 f, bytes-length 4 (levels f n))) in
      let one : new ≡ sets out 0 front = p ∙ rw e (store_both out 0 (bytes_of 4 f) 4 (bytes_of 4 (levels f n)) (bytes-length 4 f)) in
      let at : level_start f n b (height f n) - 8 ≡ 0 + length front = omega (arith, eight, start-root f n b) in
      let room = level-inside f n b 0 (omega arith) in
      one
      ∙ sets-eq front out 0 (omega (arith, eight, room, start-some f n b 0, down.long, z.room))
      ∙ ap (λ (l : List ℕ). front ++ l) (ap (λ (x : ℕ). drop x out) (sym at) ∙ down.holds)
      ∙ simp append_assoc
