-- A parent is written side by side, and a level parent by parent (`box-next`, `level-next`): what is read of the level below
-- is what stood there at first, since what is written stands before it; and a side as it stands in the buffer is that of the
-- least box around the row (`side-here`).
-- Assumes nothing.
use mathlib.Core.Path.{◌≡◌, refl, sym, ap, ◌∙◌}
use mathlib.Core.List.{List}
use Prim.Native.Nat.{ℕ, suc, ◌+◌, ◌-◌, ◌*◌, ◌≤◌, ◌<◌, min}
use native.Mathlib.Nat.{add_assoc, mul-le-mul_right}
use native.Mathlib.Omega.{arith}
use lib.ListN.{length, take, drop, length-append, length-take, length-drop}
use lib.Seq.{sets}
use Rattle.answers.specs.Runs.{join}
use Rattle.answers.proofs.Runs.{Each}
use Rattle.answers.proofs.Joined.{join-length, part_in, sum_same}
use Rattle.order.specs.Little.{bytes_of}
use Rattle.order.proofs.Bytes.{bytes-length}
use Rattle.description.specs.declared.Kind.{Kind}
use Rattle.description.specs.declared.Dimension.{Dimension}
use Rattle.description.specs.declared.Description.{Description}
use Rattle.description.specs.Kinds.{range_bytes, end_bytes}
use Rattle.description.specs.Description.{kind_at, side_start, sides_of, bytes_of_box}
use Rattle.description.proofs.Sides.{two_ends, start_up}
use Rattle.ranges.specs.Ranges.{ends_at}
use Rattle.boxes.specs.Boxes.{side_at}
use Rattle.boxes.specs.Least.{lowest_at, highest_at, least_side}
use Rattle.boxes.proofs.Least.{around-length}
use Rattle.tree.specs.Shape.{boxes}
use Rattle.tree.proofs.Counts.{first-child}
use Rattle.leaves.specs.Code.Sound.{box_in}
use Rattle.leaves.proofs.Ends.{ends-part}
use Rattle.writer.specs.Code.Rows.{lowest_of, highest_of, side_of, parent_of, level_of, Levels}
use Rattle.order.proofs.Stores.{drop_past, store_both, store-next}
use Rattle.writer.proofs.Choosing.{best-same}
use Rattle.writer.proofs.Sides.{lowest-in, highest-in, box-before}

-- a row in the bytes `rest`
module _ (kinds : List Dimension) (m : ℕ) (rest : List ℕ) (k more : ℕ) (there : (k + suc more) * side_start kinds m ≤ length rest) where
  abbrev b : ℕ
  b = side_start kinds m

  abbrev g : ℕ → List ℕ
  g = least_side kinds m (box_in rest (side_start kinds m)) k more

  row-box : (c : ℕ) → c < k + suc more → c * b + b ≤ length rest
  row-box c h = omega (arith, box-before b k (suc more) c h)

  pub row_sized : Each (λ c. length (box_in rest b c) ≡ b) k (suc more)
  row_sized c from to = simp (length-take, length-drop) (omega (arith, row-box c to))

  module _ (i : ℕ) (h : i < m) where
    abbrev kind : Kind
    kind = kind_at kinds i

    abbrev w : ℕ
    w = end_bytes (kind_at kinds i)

    abbrev s : ℕ
    s = side_start kinds i

    in-box : s + (w + w) ≤ b
    in-box = omega (arith, start_up kinds i m h, two_ends (kind_at kinds i))

    side-read : (c : ℕ) → c < k + suc more → side_at kinds (box_in rest b c) i ≡ ends_at kind rest (c * b + s)
    side-read c to = ends-part kind rest (c * b) b s in-box (row-box c to)

    same_low : lowest_at kind (λ c. (side_at kinds (box_in rest b c) i).low) k more ≡ lowest_of kind rest b s k more
    unfolding lowest_of
    same_low = best-same _ _ k more (λ x y xl xh yl yh. rw (side-read x xh, side-read y yh))

    same-high : highest_at kind (λ c. (side_at kinds (box_in rest b c) i).high) k more ≡ highest_of kind rest b s k more
    unfolding highest_of
    same-high = best-same _ _ k more (λ x y xl xh yl yh. rw (side-read x xh, side-read y yh))

    pub side-here : side_of kind rest b s k more ≡ g i
    unfolding side_of least_side
    side-here =
        let low = lowest_of kind rest b s k more in
        let high = highest_of kind rest b s k more in
        rw (
          same_low,
          same-high,
          part_in rest (low * b) s w b (omega (arith, in-box)),
          part_in rest (high * b) (s + w) w b (omega (arith, in-box)),
          add_assoc (high * b) s w,
        )

    side-long : length (g i) ≡ range_bytes kind
    unfolding side_of
    side-long =
        let low = lowest_of kind rest b s k more in
        let high = highest_of kind rest b s k more in
        let l = row-box low (lowest-in kind rest b s k more).1 in
        let r = row-box high (highest-in kind rest b s k more).1 in
        let x : length (take w (drop (low * b + s) rest)) ≡ w = simp (length-take, length-drop) (omega (arith, l, in-box)) in
        let y : length (take w (drop (high * b + s + w) rest)) ≡ w = simp (length-take, length-drop) (omega (arith, r, in-box)) in
        ap length (sym side-here) ∙ simp length-append (omega (arith, x, y, two_ends kind))

  pub sides-long : (i : ℕ) → i ≤ m → length (join g 0 i) ≡ side_start kinds i
  unfolding side_start
  sides-long i h = join-length g (λ j. range_bytes (kind_at kinds j)) 0 i (λ j from to. side-long j (omega arith))

-- a parent, side by side, at a place before the row
module _ (kinds : List Dimension) (m : ℕ) (first : List ℕ) (at start k more : ℕ)
    (there : start + (k + suc more) * side_start kinds m ≤ length first) (before : at + side_start kinds m ≤ start) where
  abbrev below : List ℕ
  below = drop start first

  below-there : (k + suc more) * side_start kinds m ≤ length below
  below-there = simp length-drop (omega arith)

  abbrev pub sides_to : ℕ → List ℕ
  sides_to i = sets first at (join (least_side kinds m (box_in below (side_start kinds m)) k more) 0 i)

  -- the row stands as it stood
  pub box-past : (i : ℕ) → i < m → (out : List ℕ) → out ≡ sides_to i → drop start out ≡ drop start first
  box-past i h out e =
      ap (drop start) e
      ∙ drop_past first at (join (least_side kinds m (box_in below (side_start kinds m)) k more) 0 i) start
      (omega (arith, sides-long kinds m below k more below-there i (omega arith), start_up kinds i m h))

  pub box-next : (i : ℕ) → i < m → (out next : List ℕ) → out ≡ sides_to i
      → next ≡ sets out (at + side_start kinds i) (side_of (kind_at kinds i) (drop start out) (side_start kinds m) (side_start kinds i) k more)
      → next ≡ sides_to (i + 1)
  box-next i h out next e p =
      let long = sides-long kinds m below k more below-there i (omega arith) in
      p
      ∙ rw (box-past i h out e, e)
      (store-next first at _ i (side_start kinds i) _ long (side-here kinds m below k more below-there i h))

-- the row of parent k is there, where its level is
module _ {out : List ℕ} {b f start parents next count : ℕ} (l : Levels out b f start parents next count) (k : ℕ) (h : k < parents) where
  pub row-some : k * f < count
  unfolding boxes
  row-some = first-child f count 0 k l.least (omega (arith, l.rounded))

  pub row-there : next + (k * f + min f (count - k * f)) * b ≤ length out
  row-there =
      let most : k * f + min f (count - k * f) ≤ count = omega (arith, row-some) in
      omega (arith, l.there, mul-le-mul_right b most)

  pub parent-before : start + k * b + b ≤ next
  parent-before = omega (arith, l.before, mul-le-mul_right b h)

-- a level, parent by parent
module _ (d : Description) (first : List ℕ) (f start parents next count : ℕ)
    (l : Levels first (bytes_of_box d) f start parents next count) where
  abbrev parent : ℕ → List ℕ
  parent = parent_of d f (drop next first) count

  abbrev pub parents_to : ℕ → List ℕ
  parents_to k = sets first start (join (parent_of d f (drop next first) count) 0 k)

  parent-long : (k : ℕ) → k < parents → length (parent k) ≡ bytes_of_box d
  unfolding bytes_of_box
  parent-long k h =
      let one : k * f + suc (min f (count - k * f) - 1) ≡ k * f + min f (count - k * f) = omega (arith, row-some l k h, l.least) in
      let there : (k * f + suc (min f (count - k * f) - 1)) * bytes_of_box d ≤ length (drop next first) =
      rw one (simp length-drop (omega (arith, row-there l k h))) in
      around-length d.kinds (sides_of d.dimensions) (box_in (drop next first) (bytes_of_box d)) (k * f) (min f (count - k * f) - 1)
      (row_sized d.kinds (sides_of d.dimensions) (drop next first) (k * f) (min f (count - k * f) - 1) there)

  parents-long : (k : ℕ) → k ≤ parents → length (join parent 0 k) ≡ k * bytes_of_box d
  parents-long k h = join-length parent (λ j. bytes_of_box d) 0 k (λ j from to. parent-long j (omega arith)) ∙ sum_same (bytes_of_box d) 0 k

  -- the level below stands as it stood
  pub level-past : (k : ℕ) → k < parents → (out : List ℕ) → out ≡ parents_to k → drop next out ≡ drop next first
  level-past k h out e =
      ap (drop next) e ∙ drop_past first start (join parent 0 k) next (omega (arith, parents-long k (omega arith), parent-before l k h))

  pub level-next : (k : ℕ) → k < parents → (out new : List ℕ) → out ≡ parents_to k
      → new ≡ sets out (start + k * bytes_of_box d) (parent_of d f (drop next out) count k)
      → new ≡ parents_to (k + 1)
  level-next k h out new e p =
      p ∙ rw (level-past k h out e, e) (store-next first start parent k (k * bytes_of_box d) (parent k) (parents-long k (omega arith)) refl)

  pub level-long : length (join parent 0 parents) ≡ parents * bytes_of_box d
  level-long = parents-long parents (omega arith)

  -- and its count before it
  pub count_past : (mid : List ℕ) → mid ≡ sets first (start - 8) (bytes_of 8 parents) → drop next mid ≡ drop next first
  count_past mid e =
      ap (drop next) e
      ∙ drop_past first (start - 8) (bytes_of 8 parents) next (omega (arith, bytes-length 8 parents, l.counted, l.before))

  pub level-stored : (mid new : List ℕ) → mid ≡ sets first (start - 8) (bytes_of 8 parents)
      → new ≡ sets mid start (join (parent_of d f (drop next mid) count) 0 parents)
      → new ≡ sets first (start - 8) (level_of d f (drop next first) count parents)
  unfolding level_of
  level-stored mid new e p =
      let eight = bytes-length 8 parents in
      let at : start ≡ start - 8 + 8 = omega (arith, l.counted) in
      p
      ∙ rw (count_past mid e, e)
      (ap (λ (x : ℕ). sets (sets first (start - 8) (bytes_of 8 parents)) x (join parent 0 parents)) at
      ∙ store_both first (start - 8) (bytes_of 8 parents) 8 (join parent 0 parents) eight)

-- the levels are there in what is as long
pub levels-as-long : {first out : List ℕ} {b f start parents next count : ℕ} → length out ≡ length first
    → Levels first b f start parents next count → Levels out b f start parents next count
levels-as-long e l = record {
  least = l.least;
  counted = l.counted;
  rounded = l.rounded;
  before = l.before;
  there = omega (arith, l.there);
}
