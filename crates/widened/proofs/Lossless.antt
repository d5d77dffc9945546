-- Does the converter lose anything? Without a float32 dimension the widened body is the body, byte by byte (`copied`).
-- With one, two bodies that opening took, of one description and n, are one where their widened bodies are
-- (`loses-nothing`): the patterns of the ends can be had back, those have the bytes of the boxes, and a body is that of
-- its boxes.
-- Assumes nothing.
use mathlib.Core.Path.{◌≡◌, refl, sym, ap, ◌∙◌}
use mathlib.Core.Bool.{false, cond}
use mathlib.Core.List.{List, [], ◌++◌, append_assoc, append-nil}
use Prim.Native.Nat.{ℕ, zero, suc, ◌+◌, ◌^◌, ◌≤◌, ◌<◌}
use native.Mathlib.Nat.{zero-add}
use native.Mathlib.Numerals.{add-one}
use native.Mathlib.Decide.{dec_le}
use native.Mathlib.Omega.{arith}
use lib.Ieee.{binary32, binary64, to_bits, of_bits}
use lib.ListN.{length, get_or, take, drop, length-take, get_or-eq_default}
use lib.Seq.{take_all, take-add, drop-drop, get_or-take, get_or-drop}
use Rattle.answers.specs.Runs.{over, join}
use Rattle.answers.proofs.Runs.{over-ext, over-snoc}
use Rattle.order.specs.Little.{bytes_of}
use Rattle.order.proofs.Pairs as pairs
use Rattle.order.proofs.Stores.{bytes-there}
use Rattle.description.specs.declared.Kind.{Kind}
use Rattle.description.specs.declared.Kind.TheVariants.{Int32, Int64, Float32, Float64, Uint64}
use Rattle.description.specs.declared.Dimension.{Dimension}
use Rattle.description.specs.declared.Description.{Description}
use Rattle.description.specs.Kinds.{range_bytes, end_bytes, is_nan, is_float32}
use Rattle.description.specs.Description.{kind_at, side_start, sides_of, bytes_of_box}
use Rattle.description.specs.Rules.{before}
use Rattle.description.proofs.Rules.{Unretired}
use Rattle.description.proofs.Retired.{no-float32}
use Rattle.description.proofs.Sides.{two_ends, start_first, start-next, start_up}
use Rattle.ranges.specs.Ranges.{Ends, ends, ends_at, has_nan}
use Rattle.ranges.proofs.Containing.{numbers}
use Rattle.ranges.proofs.Reading.{ends-at-fit}
use Rattle.boxes.specs.Boxes.{side_at}
use Rattle.boxes.proofs.Holding.{Numbers, ranges-numbers}
use Rattle.tree.specs.Shape.{boxes, height}
use Rattle.footer.specs.Fields.{tiles_of}
use Rattle.rtree.specs.Body.{fanout_of, place_of, box_at}
use Rattle.rtree.specs.Opening.{open_answer_by}
use Rattle.rtree.proofs.Passed.{Passed}
use Rattle.written.specs.Body.{body_with}
use Rattle.written.proofs.Again.{body_same, body-again}
use Rattle.widened.specs.Widened.{widened_end, widened_ends, widened_kinds, widened_description, widened_side, widened_box, widened_at, widened_body}
use Rattle.widened.proofs.Patterns.{had-back}
use Rattle.widened.proofs.Boxes.{box-side}
use Rattle.widened.proofs.Tree.{old-length, tree-fanout, tree-box}
use Rattle.widened.proofs.Opened.{opened-passed, opened-shape, opened-ranges}

-- ---- a box of its own sides
module _ (kinds : List Dimension) (bytes : List ℕ) where
  abbrev own : ℕ → List ℕ
  own i = take (range_bytes (kind_at kinds i)) (drop (side_start kinds i) bytes)

  sides-again : (i : ℕ) → join own 0 i ≡ take (side_start kinds i) bytes
  unfolding over
  sides-again zero = rw (start_first kinds)
  sides-again (suc i) =
      over-snoc ◌++◌ [] append_assoc (λ a. refl) append-nil own 0 i
      ∙ rw (zero-add i, sides-again i, ← (add-one i), start-next kinds i, take-add (side_start kinds i) (range_bytes (kind_at kinds i)) bytes)

  pub box-again : (m : ℕ) → length bytes ≡ side_start kinds m → join own 0 m ≡ bytes
  box-again m whole = sides-again m ∙ take_all (side_start kinds m) bytes (omega arith)

-- ---- a copy
side-copied : (k : Kind) (s : List ℕ) (at : ℕ) → is_float32 k ≡ false → widened_side k s at ≡ take (range_bytes k) (drop at s)
unfolding widened_side
side-copied k s at h = rw h

pub box-copied : (kinds : List Dimension) (m : ℕ) (bytes : List ℕ) → length bytes ≡ side_start kinds m
    → ((i : ℕ) → i < m → is_float32 (kind_at kinds i) ≡ false) → widened_box kinds m bytes ≡ bytes
unfolding widened_box
box-copied kinds m bytes whole none =
    over-ext ◌++◌ [] _ (own kinds bytes) 0 m (λ i a l. side-copied (kind_at kinds i) bytes (side_start kinds i) (none i (omega arith)))
    ∙ box-again kinds bytes m whole

-- ---- the ends had back
abbrev pub narrowed_end : Kind → ℕ → ℕ
narrowed_end k p = cond (is_float32 k) (to_bits binary32 (of_bits binary64 p)) p

pub end_back : (k : Kind) (p : ℕ) → p < 256 ^ end_bytes k → is_nan k p ≡ false → narrowed_end k (widened_end k p) ≡ p
unfolding is_nan
end_back Int32 p h n = refl
end_back Int64 p h n = refl
end_back Float32 p h n = had-back p (record { fits = h }) n
end_back Float64 p h n = refl
end_back Uint64 p h n = refl

-- of a range of a kind
abbrev pub narrowed_ends : Kind → Ends → Ends
narrowed_ends k e = ends k (narrowed_end k e.low) (narrowed_end k e.high)

module _ (s : List ℕ) (byte : (i : ℕ) → get_or s i 0 < 256) (k : Kind) (at : ℕ) where
  pub ends-back : has_nan (ends_at k s at) ≡ false → narrowed_ends k (widened_ends (ends_at k s at)) ≡ ends_at k s at
  unfolding ends_at
  ends-back n =
      let fit = ends-at-fit s byte k at in
      let no = numbers (ends_at k s at) n in
      rw (end_back k (ends_at k s at).low fit.0 no.0, end_back k (ends_at k s at).high fit.1 no.1)

  -- the ends have the bytes
  pub ends-bytes : at + range_bytes k ≤ length s
      → take (range_bytes k) (drop at s) ≡ bytes_of (end_bytes k) (ends_at k s at).low ++ bytes_of (end_bytes k) (ends_at k s at).high
  unfolding ends_at
  ends-bytes h =
      let m = end_bytes k in
      let two = two_ends k in
      let whole = pairs.there s at m (omega arith) refl refl in
      rw (two, take-add m m (drop at s), drop-drop m at s, ← whole.0, ← whole.1, bytes-there s byte at m (omega arith), bytes-there s byte (at + m) m (omega arith))

module _ (kinds : List Dimension) (m : ℕ) (bytes other : List ℕ) (byte : (i : ℕ) → get_or bytes i 0 < 256) (its : (i : ℕ) → get_or other i 0 < 256)
    (whole : length bytes ≡ side_start kinds m) (full : length other ≡ side_start kinds m) (n : Numbers kinds m bytes) (o : Numbers kinds m other) where
  -- boxes without a NaN are one where their widened boxes are
  pub box-lossless : widened_box kinds m bytes ≡ widened_box kinds m other → bytes ≡ other
  box-lossless e =
      sym (box-again kinds bytes m whole) ∙ over-ext ◌++◌ [] (own kinds bytes) (own kinds other) 0 m (λ i a l. one i (omega arith)) ∙ box-again kinds other m full
    where
      same-side : (i : ℕ) → i < m → side_at kinds bytes i ≡ side_at kinds other i
      same-side i l =
          let k = kind_at kinds i in
          let wide = sym (box-side kinds m bytes whole i l) ∙ ap (λ x. side_at (widened_kinds kinds) x i) e ∙ box-side kinds m other full i l in
          sym (ends-back bytes byte k (side_start kinds i) (n i l)) ∙ ap (narrowed_ends k) wide ∙ ends-back other its k (side_start kinds i) (o i l)

      one : (i : ℕ) → i < m → own kinds bytes i ≡ own kinds other i
      one i l =
          let k = kind_at kinds i in
          let at = side_start kinds i in
          ends-bytes bytes byte k at (omega (arith, start_up kinds i m l)) ∙ rw (same-side i l) (sym (ends-bytes other its k at (omega (arith, start_up kinds i m l))))

-- a part of bytes is of bytes
part-byte : (s : List ℕ) → ((i : ℕ) → get_or s i 0 < 256) → (at b i : ℕ) → get_or (take b (drop at s)) i 0 < 256
part-byte s byte at b i = go (dec_le (suc i) b)
  where
    go : Dec (suc i ≤ b) → get_or (take b (drop at s)) i 0 < 256
    go (yes h) = rw (get_or-take b (drop at s) i 0 h, get_or-drop at s i 0) (byte (at + i))
    go (no h) =
        let short : length (take b (drop at s)) ≤ i = simp length-take (omega arith) in
        rw (get_or-eq_default (take b (drop at s)) 0 short) (omega arith)

-- ---- a tree
-- a body that opening took just before float32 was retired, with some footer of n tiles, and whose bytes are bytes
pub record Taken (d : Description) (n : ℕ) (body : List ℕ) : Type 0 where
  pub footer : List ℕ
  pub file : ℕ
  pub opened : (open_answer_by before d file footer body).number ≡ 0
  pub tiles : tiles_of d footer ≡ n
  pub byte : (i : ℕ) → get_or body i 0 < 256

module _ (d : Description) (n : ℕ) (body : List ℕ) (t : Taken d n body) where
  abbrev b : ℕ
  b = bytes_of_box d

  taken-passed : Passed n (bytes_of_box d) body
  taken-passed = rw t.tiles at (opened-passed d t.file t.footer body t.opened)

  taken-again : body_with (fanout_of body) n (box_at n (bytes_of_box d) body) ≡ body
  taken-again = body-again n b body taken-passed (rw t.tiles at (opened-shape d t.file t.footer body t.opened)) t.byte

  taken-numbers : (j k : ℕ) → j ≤ height (fanout_of body) n → k < boxes (fanout_of body) n j
      → Numbers d.kinds (sides_of d.dimensions) (box_at n (bytes_of_box d) body j k)
  taken-numbers j k up there =
      ranges-numbers d.kinds (sides_of d.dimensions) (box_at n b body j k) _
      (rw t.tiles at (opened-ranges d t.file t.footer body t.opened) j k up there)

  -- without a float32 dimension the converter copies
  pub copied : Unretired d → widened_body d n body ≡ body
  unfolding bytes_of_box
  copied u =
      body_same (fanout_of body) n (widened_at d n body) (box_at n b body)
      (λ j k up there. box-copied d.kinds (sides_of d.dimensions) _ (old-length d n body taken-passed j k up there) (no-float32 d u))
      ∙ taken-again

module _ (d : Description) (n : ℕ) (body other : List ℕ) (t : Taken d n body) (u : Taken d n other) where
  -- two bodies that opening takes are one where their widened bodies are
  pub loses-nothing : widened_body d n body ≡ widened_body d n other → body ≡ other
  unfolding bytes_of_box
  loses-nothing e =
      sym (taken-again d n body t)
      ∙ body_same f n (box_at n b body) (box_at n b other) one
      ∙ ap (λ x. body_with x n (box_at n b other)) fanout
      ∙ taken-again d n other u
    where
      f : ℕ
      f = fanout_of body

      b : ℕ
      b = bytes_of_box d

      wide : ℕ
      wide = bytes_of_box (widened_description d)

      p : Passed n (bytes_of_box d) body
      p = taken-passed d n body t

      q : Passed n (bytes_of_box d) other
      q = taken-passed d n other u

      fanout : fanout_of body ≡ fanout_of other
      fanout = sym (tree-fanout d n body p) ∙ ap fanout_of e ∙ tree-fanout d n other q

      one : (j k : ℕ) → j ≤ height f n → k < boxes f n j → box_at n b body j k ≡ box_at n b other j k
      one j k up there =
          let up' : j ≤ height (fanout_of other) n = rw fanout at up in
          let there' : k < boxes (fanout_of other) n j = rw fanout at there in
          box-lossless d.kinds (sides_of d.dimensions) (box_at n b body j k) (box_at n b other j k)
          (part-byte body t.byte (place_of n b body j k) b) (part-byte other u.byte (place_of n b other j k) b)
          (old-length d n body p j k up there) (old-length d n other q j k up' there')
          (taken-numbers d n body t j k up there) (taken-numbers d n other u j k up' there')
          (sym (tree-box d n body p j k up there) ∙ ap (λ x. box_at n wide x j k) e ∙ tree-box d n other q j k up' there')
