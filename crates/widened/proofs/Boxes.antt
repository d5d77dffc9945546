-- What is read back from the bytes of a widened box? Side by side the widened ends of the box (`box-side`), in bytes of
-- the widened kinds (`box-length`). So it meets a widened window, and lies inside a widened box, where it did before,
-- and its ranges are sound where they were.
-- Assumes nothing.
use mathlib.Core.Path.{◌≡◌, refl, sym, ap, ◌∙◌}
use mathlib.Core.Bool.{true, ◌&&◌}
use mathlib.Core.List.{List, ◌++◌}
use Prim.Native.Nat.{ℕ, ◌+◌, ◌^◌, ◌≤◌, ◌<◌}
use native.Mathlib.Nat.{zero-add}
use native.Mathlib.Omega.{arith}
use lib.IntN.{pos}
use lib.ListN.{length, take, drop, length-append, length-take, length-drop, get_or-map}
use lib.Seq.{take_all, take_at, drop_at}
use Rattle.answers.specs.Refusals.{none}
use Rattle.answers.proofs.Runs.{over-ext}
use Rattle.answers.proofs.Checks.{each-clear, all-clear}
use Rattle.answers.proofs.Joined.{join-length, join-part}
use Rattle.order.specs.Little.{bytes_of, first_of_two, second_of_two}
use Rattle.order.proofs.Bytes.{bytes-length, little-found}
use Rattle.order.proofs.Pairs.{Both, there}
use Rattle.description.specs.declared.Kind.{Kind}
use Rattle.description.specs.declared.Kind.TheVariants.{Int32, Int64, Float32, Float64, Uint64}
use Rattle.description.specs.declared.Dimension.{Dimension}
use Rattle.description.specs.Kinds.{range_bytes}
use Rattle.description.specs.Description.{kind_at, side_start}
use Rattle.description.proofs.Sides.{start_up}
use Rattle.ranges.specs.declared.Range.TheVariants.{I32}
use Rattle.ranges.specs.Ranges.{kind_of, ends_at, ends_of, meets}
use Rattle.ranges.proofs.Comparing.{ends-kind}
use Rattle.ranges.proofs.Reading.{part-ends}
use Rattle.boxes.specs.declared.Side.{Side}
use Rattle.boxes.specs.Boxes.{range_in, side_at, ranges_refusal, box_inside, box_meets, box_read}
use Rattle.boxes.proofs.Walking.{told_at}
use Rattle.boxes.proofs.ReadTo.{read-ext}
use Rattle.widened.specs.Widened.{widened_kind, widened_pattern, widened_ends, widened_range, widened_sides, widened_kinds, widened_side, widened_box}
use Rattle.widened.proofs.Patterns.{pattern_lt}
use Rattle.widened.proofs.Ranges.{range-ends, meets-widened, inside-widened, stored-widened}

-- ---- the kinds, and the sides of a window
pub kind-widened : (kinds : List Dimension) (i : ℕ) → kind_at (widened_kinds kinds) i ≡ widened_kind (kind_at kinds i)
kind-widened kinds i =
    ap (λ (x : Dimension). x.kind) (get_or-map (λ (x : Dimension). record { kind = widened_kind x.kind }) kinds i (record { kind = Int32 }))

pub side-widened : (sides : List Side) (i : ℕ) → range_in (widened_sides sides) i ≡ widened_range (range_in sides i)
unfolding widened_range
side-widened sides i =
    ap (λ (s : Side). s.range) (get_or-map (λ (s : Side). record { range = widened_range s.range }) sides i (record { range = I32 (pos 0) (pos 0) }))

-- ---- the range of one side
-- two numbers of m bytes, one after the other
two-found : (m x y : ℕ) → x < 256 ^ m → y < 256 ^ m → Both (bytes_of m x ++ bytes_of m y) 0 m x y
two-found m x y p q =
    let s = bytes_of m x ++ bytes_of m y in
    let long : length s ≡ m + m = length-append (bytes_of m x) (bytes_of m y) ∙ omega (arith, bytes-length m x, bytes-length m y) in
    let first = little-found s 0 m x p (take_at (bytes_of m x) (bytes_of m y) m (bytes-length m x)) in
    let rest : take m (drop (0 + m) s) ≡ bytes_of m y =
    rw (zero-add, drop_at (bytes_of m x) (bytes_of m y) m (bytes-length m x)) (take_all m (bytes_of m y) (omega (arith, bytes-length m y))) in
    there s 0 m (omega arith) (sym first) (sym (little-found s (0 + m) m y q rest))

module _ (s : List ℕ) (at : ℕ) where
  pub side-length : (k : Kind) → at + range_bytes k ≤ length s → length (widened_side k s at) ≡ range_bytes (widened_kind k)
  unfolding widened_side
  side-length Int32 h = simp (length-take, length-drop) (omega arith)
  side-length Int64 h = simp (length-take, length-drop) (omega arith)
  side-length Float32 h =
      length-append (bytes_of 8 _) (bytes_of 8 _) ∙ omega (arith, bytes-length 8 (widened_pattern (ends_at Float32 s at).low), bytes-length 8 (widened_pattern (ends_at Float32 s at).high))
  side-length Float64 h = simp (length-take, length-drop) (omega arith)
  side-length Uint64 h = simp (length-take, length-drop) (omega arith)

  pub side-ends : (k : Kind) → at + range_bytes k ≤ length s → ends_at (widened_kind k) (widened_side k s at) 0 ≡ widened_ends (ends_at k s at)
  unfolding widened_side ends_at
  side-ends Int32 h = part-ends Int32 s at (range_bytes Int32) refl h
  side-ends Int64 h = part-ends Int64 s at (range_bytes Int64) refl h
  side-ends Float32 h =
      let x = first_of_two s at 4 in
      let y = second_of_two s at 4 in
      let both = two-found 8 (widened_pattern x) (widened_pattern y) (pattern_lt x) (pattern_lt y) in
      rw (← both.0, ← both.1)
  side-ends Float64 h = part-ends Float64 s at (range_bytes Float64) refl h
  side-ends Uint64 h = part-ends Uint64 s at (range_bytes Uint64) refl h

-- ---- a box
module _ (kinds : List Dimension) (m : ℕ) where
  module _ (bytes : List ℕ) (whole : length bytes ≡ side_start kinds m) where
    abbrev piece : ℕ → List ℕ
    piece i = widened_side (kind_at kinds i) bytes (side_start kinds i)

    abbrev width : ℕ → ℕ
    width i = range_bytes (kind_at (widened_kinds kinds) i)

    fits : (i : ℕ) → i < m → side_start kinds i + range_bytes (kind_at kinds i) ≤ length bytes
    fits i l = omega (arith, start_up kinds i m l)

    piece-length : (i : ℕ) → i < m → length (piece i) ≡ width i
    piece-length i l = side-length bytes (side_start kinds i) (kind_at kinds i) (fits i l) ∙ ap range_bytes (sym (kind-widened kinds i))

    pub box-length : length (widened_box kinds m bytes) ≡ side_start (widened_kinds kinds) m
    unfolding widened_box side_start
    box-length = join-length piece width 0 m (λ i a l. piece-length i (omega arith))

    box-part : (i : ℕ) → i < m → take (width i) (drop (side_start (widened_kinds kinds) i) (widened_box kinds m bytes)) ≡ piece i
    unfolding widened_box side_start
    box-part i l = join-part piece width i m l (λ j a b. piece-length j (omega arith))

    pub box-side : (i : ℕ) → i < m → side_at (widened_kinds kinds) (widened_box kinds m bytes) i ≡ widened_ends (side_at kinds bytes i)
    box-side i l =
        let k = kind_at (widened_kinds kinds) i in
        let start = side_start (widened_kinds kinds) i in
        sym (part-ends k (widened_box kinds m bytes) start (width i) refl (omega (arith, start_up (widened_kinds kinds) i m l, box-length)))
        ∙ rw (box-part i l, kind-widened kinds i) (side-ends bytes (side_start kinds i) (kind_at kinds i) (fits i l))

    -- its ranges are sound where they were
    pub box-sound : (from to : ℕ) → (ranges_refusal kinds m bytes from).number ≡ 0 → ranges_refusal (widened_kinds kinds) m (widened_box kinds m bytes) to ≡ none
    unfolding ranges_refusal
    box-sound from to clear =
        all-clear (told_at (widened_kinds kinds) (widened_box kinds m bytes) to) 0 m (λ i a l.
        rw (box-side i (omega arith))
        (stored-widened (side_at kinds bytes i) _ _ _ _ (each-clear (told_at kinds bytes from) 0 m clear i a l)))

  -- against a widened window of its own kinds
  module _ (bytes : List ℕ) (whole : length bytes ≡ side_start kinds m) (sides : List Side)
      (alike : (i : ℕ) → i < m → kind_of (range_in sides i) ≡ kind_at kinds i) where
    side-meets : (i : ℕ) → i < m
        → meets (side_at (widened_kinds kinds) (widened_box kinds m bytes) i) (ends_of (range_in (widened_sides sides) i))
        ≡ meets (side_at kinds bytes i) (ends_of (range_in sides i))
    unfolding ends_at
    side-meets i l =
        let r = range_in sides i in
        let kind : (side_at kinds bytes i).kind ≡ (ends_of r).kind = sym (ends-kind r ∙ alike i l) in
        rw (box-side bytes whole i l, side-widened sides i, range-ends r) (meets-widened (side_at kinds bytes i) (ends_of r) kind)

    -- it meets where it did
    pub box-meets : box_meets (widened_kinds kinds) m (widened_box kinds m bytes) (widened_sides sides) ≡ box_meets kinds m bytes sides
    unfolding box_meets
    box-meets = over-ext ◌&&◌ true _ _ 0 m (λ i a l. side-meets i (omega arith))

    -- and as many of its dimensions are read
    pub box_read_lem : box_read (widened_kinds kinds) m (widened_box kinds m bytes) (widened_sides sides) ≡ box_read kinds m bytes sides
    unfolding box_read
    box_read_lem = read-ext _ _ 0 m (λ i a l. side-meets i (omega arith))

  one-kind : (bytes outer : List ℕ) (i : ℕ) → (side_at kinds bytes i).kind ≡ (side_at kinds outer i).kind
  unfolding ends_at
  one-kind bytes outer i = refl

  -- and lies inside a widened box where it did
  pub box-inside : (bytes outer : List ℕ) → length bytes ≡ side_start kinds m → length outer ≡ side_start kinds m
      → box_inside (widened_kinds kinds) m (widened_box kinds m bytes) (widened_box kinds m outer) ≡ box_inside kinds m bytes outer
  unfolding box_inside
  box-inside bytes outer whole full =
      over-ext ◌&&◌ true _ _ 0 m (λ i a l.
      rw (box-side bytes whole i (omega arith), box-side outer full i (omega arith))
      (inside-widened (side_at kinds bytes i) (side_at kinds outer i) (one-kind bytes outer i)))
