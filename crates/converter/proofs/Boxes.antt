-- A box is written side by side, and a run box by box: what stands in the buffer so far is one piece more (`side-next`,
-- `box-next`).
-- Assumes nothing.
use mathlib.Core.Path.{◌≡◌, refl, sym, ap, ◌∙◌}
use mathlib.Core.List.{List}
use Prim.Native.Nat.{ℕ, ◌+◌, ◌*◌, ◌≤◌, ◌<◌}
use native.Mathlib.Nat.{mul-le-mul_right}
use native.Mathlib.Omega.{arith}
use lib.ListN.{length, take, drop, length-take, length-drop}
use lib.Seq.{sets}
use Rattle.answers.specs.Runs.{join}
use Rattle.answers.proofs.Joined.{join-length, sum_same}
use Rattle.description.specs.declared.Dimension.{Dimension}
use Rattle.description.specs.declared.Description.{Description}
use Rattle.description.specs.Kinds.{range_bytes}
use Rattle.description.specs.Description.{kind_at, side_start, sides_of, bytes_of_box}
use Rattle.description.proofs.Sides.{start_up, start-next}
use Rattle.widened.specs.Widened.{widened_kind, widened_kinds, widened_side}
use Rattle.widened.proofs.Boxes.{kind-widened, side-length, box-length}
use Rattle.order.proofs.Stores.{store-next}
use Rattle.converter.specs.Code.Levels.{box_from, boxes_from, Run}

-- the sides of a box
abbrev pub sides_to : List Dimension → List ℕ → ℕ → List ℕ
sides_to kinds bytes i = join (λ j. widened_side (kind_at kinds j) bytes (side_start kinds j)) 0 i

module _ (kinds : List Dimension) (i : ℕ) where
  -- where the next side goes
  pub next-wide : side_start (widened_kinds kinds) (i + 1) ≡ side_start (widened_kinds kinds) i + range_bytes (widened_kind (kind_at kinds i))
  next-wide = start-next (widened_kinds kinds) i ∙ rw (kind-widened kinds i)

module _ (kinds : List Dimension) (m : ℕ) (bytes : List ℕ) (whole : length bytes ≡ side_start kinds m) where
  pub side-there : (i : ℕ) → i < m → side_start kinds i + range_bytes (kind_at kinds i) ≤ length bytes
  side-there i h = omega (arith, start_up kinds i m h)

  pub side-room : (i : ℕ) → i < m → side_start (widened_kinds kinds) i + range_bytes (widened_kind (kind_at kinds i)) ≤ side_start (widened_kinds kinds) m
  side-room i h = rw (kind-widened kinds i) at (start_up (widened_kinds kinds) i m h)

  sides-long : (i : ℕ) → i ≤ m → length (sides_to kinds bytes i) ≡ side_start (widened_kinds kinds) i
  unfolding side_start
  sides-long i h =
      join-length _ (λ j. range_bytes (kind_at (widened_kinds kinds) j)) 0 i (λ j from to.
      side-length bytes (side_start kinds j) (kind_at kinds j) (side-there j (omega arith)) ∙ ap range_bytes (sym (kind-widened kinds j)))

  pub side-next : (first : List ℕ) (at i : ℕ) → i < m → (from to : ℕ) → from ≡ side_start kinds i → to ≡ at + side_start (widened_kinds kinds) i
      → (out new : List ℕ) → out ≡ sets first at (sides_to kinds bytes i) → new ≡ sets out to (widened_side (kind_at kinds i) bytes from)
      → new ≡ sets first at (sides_to kinds bytes (i + 1))
  side-next first at i h from to f t out new e p =
      p ∙ rw (e, f, t) (store-next first at _ i (side_start (widened_kinds kinds) i) _ (sides-long i (omega arith)) refl)

-- a run of boxes
module _ {d : Description} {old wide : ℕ} {body : List ℕ} {from : ℕ} {out : List ℕ} {at count : ℕ} (r : Run d old wide body from out at count) where
  pub box-there : (k : ℕ) → k < count → from + k * old + old ≤ length body
  box-there k h = omega (arith, r.there, mul-le-mul_right old h)

  pub box-room : (k : ℕ) → k < count → at + k * wide + wide ≤ length out
  box-room k h = omega (arith, r.room, mul-le-mul_right wide h)

  pub box-long : (k : ℕ) → k < count → length (box_from d body from k) ≡ wide
  unfolding bytes_of_box
  box-long k h =
      let o = r.own in
      box-length d.kinds (sides_of d.dimensions) (take (bytes_of_box d) (drop (from + k * bytes_of_box d) body))
      (simp (length-take, length-drop) (omega (arith, rw o at (box-there k h))))
      ∙ sym r.new

  boxes-long : (k : ℕ) → k ≤ count → length (boxes_from d body from k) ≡ k * wide
  boxes-long k h = join-length (box_from d body from) (λ i. wide) 0 k (λ i a b. box-long i (omega arith)) ∙ sum_same wide 0 k

  pub box-next : (first : List ℕ) (k : ℕ) → k < count → (mid new : List ℕ) → mid ≡ sets first at (boxes_from d body from k)
      → new ≡ sets mid (at + k * wide) (box_from d body from k)
      → new ≡ sets first at (boxes_from d body from (k + 1))
  box-next first k h mid new e p =
      p ∙ rw e (store-next first at (box_from d body from) k (k * wide) _ (boxes-long k (omega arith)) refl)

  -- in what is as long
  pub run-as-long : {mid : List ℕ} → length mid ≡ length out → Run d old wide body from mid at count
  run-as-long e = record { own = r.own; new = r.new; there = r.there; room = omega (arith, r.room) }
