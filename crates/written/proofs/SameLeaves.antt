-- Which leaves equal an accepted tree's? Those that have the same bit patterns in each dimension (`same-patterns`), the tree's own among them
-- (`own-leaves`). The writer takes whatever equals them (`same-cleared`): then it refuses nothing but a room that is too short (`only-room`).
-- Assumes nothing.
use mathlib.Core.Path.{◌≡◌, ap, ◌∙◌}
use mathlib.Core.List.{List}
use Prim.Native.Nat.{ℕ, ◌*◌, ◌<◌}
use native.Mathlib.Nat.{mul-le-mul_right}
use native.Mathlib.Omega.{arith}
use lib.Dec.{ltb}
use lib.ListN.{length, take, drop, length-take, length-drop}
use Rattle.answers.specs.Refusals as refusals
use Rattle.answers.specs.Checks.{check}
use Rattle.answers.specs.declared.Refusal.{Refusal}
use Rattle.answers.proofs.Checks.{go_on, clear}
use Rattle.answers.proofs.Joined.{part_in}
use Rattle.description.specs.declared.Description.{Description}
use Rattle.description.specs.Description.{sides_of, bytes_of_box, limits_refusal, retired_refusal, description_refusal}
use Rattle.ranges.specs.Ranges.{has_nan}
use Rattle.boxes.specs.Boxes.{side_at, ranges_refusal}
use Rattle.boxes.proofs.Holding.{ranges-numbers, box-inside-same, same-sound}
use Rattle.tree.specs.Shape.{boxes, level_start, body_bytes}
use Rattle.tree.proofs.Places.{leaves-end}
use Rattle.footer.specs.Checks.{entry_refusal}
use Rattle.rtree.specs.Body.{fanout_of, place_of, box_at}
use Rattle.rtree.specs.Opening.{Accepted}
use Rattle.rtree.proofs.Nested.{opened}
use Rattle.rtree.proofs.Sound.{accepted-passed, accepted-ranges}
use Rattle.written.specs.Body.{written_box}
use Rattle.written.specs.Writing.{write_refusal}
use Rattle.written.specs.SameLeaves.{leaves_of, SameLeaves}
use Rattle.written.proofs.Tree.{Cleared, write-room}

module _ (d : Description) (n : ℕ) (body : List ℕ) (a : Accepted d n body) where
  leaf-clear : (k : ℕ) → k < n
      → (ranges_refusal d.kinds (sides_of d.dimensions) (box_at n (bytes_of_box d) body 0 k) (place_of n (bytes_of_box d) body 0 k)).number ≡ 0
  unfolding boxes
  leaf-clear k l = accepted-ranges d n body a 0 k (omega arith) l

  -- leaves of the same bit patterns in each dimension
  pub same-patterns : (leaves : List ℕ) → length leaves ≡ n * bytes_of_box d
      → ((k : ℕ) → k < n → (i : ℕ) → i < sides_of d.dimensions
      → side_at d.kinds (take (bytes_of_box d) (drop (k * bytes_of_box d) leaves)) i ≡ side_at d.kinds (box_at n (bytes_of_box d) body 0 k) i)
      → SameLeaves d n body leaves
  same-patterns leaves whole same = record {
    whole = whole;
    equal = λ k l.
        let leaf = take (bytes_of_box d) (drop (k * bytes_of_box d) leaves) in
        let own = ranges-numbers d.kinds (sides_of d.dimensions) (box_at n (bytes_of_box d) body 0 k) _ (leaf-clear k l) in
        box-inside-same d.kinds (sides_of d.dimensions) leaf (box_at n (bytes_of_box d) body 0 k)
        (λ i h. ap has_nan (same k l i h) ∙ own i h) (same k l);
  }

  own-length : length (leaves_of d n body) ≡ n * bytes_of_box d
  own-length =
      simp (length-take, length-drop) (omega (arith, (accepted-passed d n body a).whole, leaves-end (fanout_of body) n (bytes_of_box d)))

  own-leaf : (k : ℕ) → k < n → take (bytes_of_box d) (drop (k * bytes_of_box d) (leaves_of d n body)) ≡ box_at n (bytes_of_box d) body 0 k
  own-leaf k l =
      part_in body (level_start (fanout_of body) n (bytes_of_box d) 0) (k * bytes_of_box d) (bytes_of_box d) (n * bytes_of_box d)
      (omega (arith, mul-le-mul_right (bytes_of_box d) l))

  -- the tree's own, byte by byte
  pub own-leaves : SameLeaves d n body (leaves_of d n body)
  own-leaves = same-patterns (leaves_of d n body) own-length (λ k l i h. ap (λ x. side_at d.kinds x i) (own-leaf k l))

  described : (description_refusal d).number ≡ 0
  unfolding entry_refusal
  described =
      let front = clear _ _ (opened d a.file a.footer body a.passed).0 in
      ap (λ (r : Refusal). r.number) (go_on (limits_refusal d) (retired_refusal d) front.0) ∙ (clear _ _ front.1).0

  module _ (leaves : List ℕ) (same : SameLeaves d n body leaves) where
    pub same-cleared : Cleared d n (fanout_of body) leaves
    unfolding written_box
    same-cleared = record {
      described = described;
      sizes = (accepted-passed d n body a).sized;
      whole = same.whole;
      sound = λ k l.
          ap (λ (r : Refusal). r.number)
          (same-sound d.kinds (sides_of d.dimensions) (take (bytes_of_box d) (drop (k * bytes_of_box d) leaves)) (box_at n (bytes_of_box d) body 0 k)
          _ (k * bytes_of_box d) (leaf-clear k l) (same.equal k l).0 (same.equal k l).1);
    }

    -- From leaf boxes that equal an accepted tree's the writer refuses nothing but a room that is shorter than the body.
    pub only-room : (room : ℕ)
        → write_refusal d n (fanout_of body) leaves room ≡ check (ltb room (body_bytes (fanout_of body) n (bytes_of_box d))) refusals.room 0
    only-room = write-room d n (fanout_of body) leaves same-cleared
