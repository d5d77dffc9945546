-- What do all bytes come to? Nothing that has come shows a fault of the shape (`none-shown`); so bytes that fell short, or
-- went past the stated length, come to 2 (`ends-other`), and those that add up to it to what opening says: the first fault
-- of a box, or the numbers of an accepted tree (`ends-fault`, `ends-accepted`).
-- Assumes nothing.
use mathlib.Core.Path.{◌≡◌, refl, ap, sym, ◌∙◌}
use mathlib.Core.List.{List}
use Prim.Native.Nat.{ℕ, suc, ◌+◌, ◌-◌, ◌*◌, ◌≤◌, ◌<◌, min}
use native.Mathlib.Nat.{mul-le-mul_right}
use native.Mathlib.Decide.{dec_le}
use native.Mathlib.Omega.{arith}
use lib.ListN.{length, take, drop}
use borrow.Author.Tests.{eq-eqb, ne_eqb}
use Rattle.answers.specs.Refusals as refusals
use Rattle.answers.specs.Checks.{otherwise}
use Rattle.answers.specs.declared.Refusal.{Refusal}
use Rattle.answers.proofs.Checks.{go_on}
use Rattle.order.specs.Little.{little}
use Rattle.order.proofs.Little.{little-take}
use Rattle.description.specs.declared.Description.{Description}
use Rattle.description.specs.Description.{bytes_of_box}
use Rattle.tree.specs.Shape.{boxes, height, levels, level_start, body_bytes, shape_of}
use Rattle.tree.proofs.Places.{level-inside, start-root}
use Rattle.footer.specs.Fields.{tiles_of, domain_bytes}
use Rattle.rtree.specs.Body.{fanout_of, levels_of, stored_count, shape_refusal}
use Rattle.rtree.proofs.Passed.{box-bytes-most}
use Rattle.rtree.specs.Opening.{boxes_refusal, body_refusal, refused_in, open_answer, open_answer_by}
use Rattle.parts_state.specs.declared.Parts.{Parts}
use Rattle.parts_state.specs.Parts.{inner_bytes, front_shown, shown_refusal, counts_shown, which_of, parts_answer}
use Rattle.parts_state.specs.Code.State.{InTree, Going, Holds}
use Rattle.parts_state.proofs.Shown.{shown, say-shown, say-open, say-other, counts-none, front-none, front-short, front-alone}
use Rattle.parts_state.proofs.Whole.{shown-shape}
use Rattle.parts.specs.Code.Cursor.{onward, refused}
use Rattle.parts.specs.Code.Steps.{inner_in}
use Rattle.parts.proofs.Levels.{from_end, start-after}
use Rattle.parts.proofs.Front.{front-code, footer-has, shown-counts}

module _ {d : Description} {F : ℕ} {footer : List ℕ} {stated : ℕ} {body work : List ℕ} {s : Parts} {p : ℕ}
    (g : Going d F footer stated body work s p) (some-fanout : 0 < s.cursor.fanout) where
  abbrev n : ℕ
  n = tiles_of d footer

  abbrev b : ℕ
  b = bytes_of_box d

  abbrev f : ℕ
  f = fanout_of body

  abbrev j : ℕ
  j = s.cursor.level

  abbrev t : InTree d F footer stated body work s
  t = g.tree some-fanout

  abbrev domain : List ℕ
  domain = domain_bytes d footer

  -- what comes next is not there whole
  part_of : (s.cursor.counted ≡ 0) → p < level_start f n b j
  part_of e =
      let item = rw (eq-eqb s.cursor.counted 0 e) at g.part in
      let none : s.cursor.index * b ≡ 0 = rw (t.fresh e) (omega arith) in
      omega (arith, g.here, t.place, item, none, e)

  box-part : (s.cursor.counted ≡ 0 → ⊥) → p < level_start f n b j + s.cursor.index * b + b
  box-part o =
      let item = rw (ne_eqb s.cursor.counted 0 o, g.description) at g.part in
      let one : s.cursor.counted ≡ 1 = omega (arith, t.flag) in
      omega (arith, g.here, t.place, item, one)

  -- so a count that is there is one of those that are right
  right : (i : ℕ) → i ≤ height f n → level_start f n b i ≤ p → stored_count n b body i ≡ boxes f n i
  right i near there = go (dec_le j i) (dec_le 1 s.cursor.counted)
    where
      below : suc i ≤ j → level_start f n b j + boxes f n j * b + 8 ≤ level_start f n b i
      below l =
          let up : i + suc (j - suc i) ≡ j = omega arith in
          rw up at (start-after f n b i (j - suc i) (omega (arith, t.near)))

      go : Dec (j ≤ i) → Dec (1 ≤ s.cursor.counted) → stored_count n b body i ≡ boxes f n i
      go (yes l) (yes c) = t.counts i near (omega arith)
      go (yes l) (no c) = t.counts i near (later (dec_le i j))
        where
          later : Dec (i ≤ j) → j < i + s.cursor.counted
          later (yes e) =
              let same : i ≡ j = omega arith in
              let h = part_of (omega arith) in
              absurd (omega (arith, rw same at there))
          later (no e) = omega arith
      go (no l) (yes c) = absurd (inner (dec_le (suc s.cursor.index) (boxes f n j)))
        where
          inner : Dec (suc s.cursor.index ≤ boxes f n j) → ⊥
          inner (yes e) = omega (arith, below (omega arith), box-part (λ z. omega arith), mul-le-mul_right b e)
          inner (no e) = omega (arith, t.last (omega (arith, t.index)))
      go (no l) (no c) = absurd (omega (arith, below (omega arith), part_of (omega arith)))

  eight : 8 ≤ p
  eight = go (dec_le 1 s.cursor.counted)
    where
      start : 16 ≤ level_start f n b j
      start = omega (arith, above (dec_le (suc j) (height f n)))
        where
          above : Dec (suc j ≤ height f n) → 16 ≤ level_start f n b j
          above (yes l) =
              let up : j + suc (height f n - suc j) ≡ height f n = omega arith in
              omega (arith, rw (up, start-root f n b) at (start-after f n b j (height f n - suc j) (omega arith)))
          above (no l) =
              let top : j ≡ height f n = omega (arith, t.near) in
              rw top (omega (arith, start-root f n b))

      go : Dec (1 ≤ s.cursor.counted) → 8 ≤ p
      go (yes c) = omega (arith, g.here, t.place, t.flag, start)
      go (no c) = omega (arith, g.here, t.place, start)

  -- with as many bytes there as have come, or as the stated length says
  module _ (have : min (length body) stated ≡ p) where
    pub none-shown : shown d F footer stated (length work) body ≡ refusals.none
    none-shown = rw have (shown-counts g some-fanout p eight ∙ counts-none n b p body right)

    pub ends-other : (length body ≡ stated → ⊥)
        → parts_answer d F footer stated (length work) body ≡ refused_in 1 (refusals.refusal refusals.bytes p)
    ends-other o = rw have at (say-other d F footer stated (length work) body g.passed (rw none-shown refl) o)

    -- more bytes than stated
    pub ends-past : p ≡ stated → (length body ≡ stated → ⊥)
        → Holds d F footer stated body work (onward s (refused s.cursor 1 refusals.bytes s.stated)) (length body)
    ends-past all o = record {
      decided = λ _. ends-other o ∙ rw (g.said, all);
      going = λ z. absurd (omega arith);
    }

    module _ (whole : length body ≡ stated) where
      all_come : p ≡ stated
      all_come = omega arith

      -- the last leaf has come
      at-end : boxes f n 0 ≤ s.cursor.index × (j ≡ 0)
      at-end = go (dec_le 1 s.cursor.counted) (dec_le (suc s.cursor.index) (boxes f n j))
        where
          inside : level_start f n b j + boxes f n j * b ≤ stated
          inside = rw t.whole (level-inside f n b j t.near)

          go : Dec (1 ≤ s.cursor.counted) → Dec (suc s.cursor.index ≤ boxes f n j) → boxes f n 0 ≤ s.cursor.index × (j ≡ 0)
          go (no c) q = absurd (omega (arith, all_come, part_of (omega arith), inside))
          go (yes c) (yes l) = absurd (omega (arith, all_come, box-part (λ z. omega arith), inside, mul-le-mul_right b l))
          go (yes c) (no l) =
              let zero-level = t.last (omega (arith, t.index)) in
              let leaves : boxes f n j ≤ s.cursor.index = omega arith in
              (rw zero-level at leaves, zero-level)

      boxes-are : boxes_refusal d n body domain ≡ otherwise (refusals.refusal s.cursor.box_number s.cursor.box_place) refusals.none
      boxes-are = t.fault ∙ rw (at-end.1, from_end d n domain body s.cursor.index at-end.0)

      body_is : body_refusal d n domain body ≡ otherwise (refusals.refusal s.cursor.box_number s.cursor.box_place) refusals.none
      unfolding body_refusal
      body_is =
          let shape = shown-shape n b stated (length work) body whole (rw none-shown (λ z. omega arith)) in
          let clear : (shape_refusal n b body).number ≡ 0 = rw (← shape, none-shown) refl in
          go_on (shape_refusal n b body) (boxes_refusal d n body domain) clear ∙ boxes-are

      opened : parts_answer d F footer stated (length work) body ≡ open_answer d F footer body
      opened = say-open d F footer stated (length work) body g.passed (rw none-shown refl) whole

      pub ends-fault : (s.cursor.box_number ≡ 0 → ⊥)
          → parts_answer d F footer stated (length work) body ≡ refused_in 1 (refusals.refusal s.cursor.box_number s.cursor.box_place)
      unfolding open_answer_by
      ends-fault some =
          opened ∙ rw (eq-eqb _ 0 g.passed, body_is, ne_eqb s.cursor.box_number 0 some, ne_eqb s.cursor.box_number 0 some)

      pub ends-accepted : s.cursor.box_number ≡ 0
          → parts_answer d F footer stated (length work) body
          ≡ record { number = 0; place = 0; which = 0; tiles = s.tiles; fanout = s.cursor.fanout; levels = s.cursor.levels }
      unfolding open_answer_by
      ends-accepted none =
          opened ∙ rw (eq-eqb _ 0 g.passed, body_is, eq-eqb s.cursor.box_number 0 none, g.tiles, t.fanout, t.level-number)

-- from the eighth byte on the fanout is known
pub late-tree : {d : Description} {F : ℕ} {footer : List ℕ} {stated : ℕ} {body work : List ℕ} {s : Parts} {p : ℕ}
    → Going d F footer stated body work s p → 8 ≤ p → 0 < s.cursor.fanout
late-tree {d} {F} {footer} {stated} {body} {work} {s} {p} g late = go (dec_le 1 s.cursor.fanout)
  where
    go : Dec (1 ≤ s.cursor.fanout) → 0 < s.cursor.fanout
    go (yes l) = l
    go (no l) =
        let k = g.blank (omega arith) in
        let few = rw (eq-eqb s.cursor.counted 0 k.counted) at g.part in
        absurd (omega (arith, g.here, k.done, few))

-- Fewer than eight bytes came.
module _ {d : Description} {F : ℕ} {footer : List ℕ} {stated : ℕ} {body work : List ℕ} {s : Parts}
    (g : Going d F footer stated body work s (length body)) (blank : s.cursor.fanout ≡ 0) where
  few-kept : s.cursor.kept < 8
  few-kept = rw (eq-eqb s.cursor.counted 0 (g.blank blank).counted) at g.part

  pub all-kept : s.cursor.kept ≡ length body
  all-kept = omega (arith, g.here, (g.blank blank).done)

  have-kept : min (length body) stated ≡ s.cursor.kept
  have-kept = omega (arith, all-kept, few-kept, g.enough)

  -- the fanout, where it is there
  fanout-held : 4 ≤ s.cursor.kept → little s.held 0 4 ≡ fanout_of body
  fanout-held h =
      let same : take s.cursor.kept s.held ≡ take s.cursor.kept (drop 0 body) = rw (g.blank blank).done at g.held in
      sym (little-take s.held s.cursor.kept 0 4 (omega arith))
      ∙ ap (λ (l : List ℕ). little l 0 4) same
      ∙ little-take (drop 0 body) s.cursor.kept 0 4 (omega arith)

  -- no count is
  no-counts : counts_shown (tiles_of d footer) (bytes_of_box d) s.cursor.kept body ≡ refusals.none
  unfolding level_start levels
  no-counts =
      counts-none (tiles_of d footer) (bytes_of_box d) s.cursor.kept body
      (λ i near there. absurd (omega (arith, few-kept)))

  module _ {told : Refusal} {fanout box-bytes room : ℕ} (size : length work ≡ room) (own : box-bytes ≡ bytes_of_box s.description)
      (e : fanout ≡ little s.held 0 4)
      (h : told ≡ front_shown s.stated room s.cursor.kept fanout 0 (shape_of fanout s.tiles box-bytes).levels (shape_of fanout s.tiles box-bytes).bytes (inner_in fanout s.tiles box-bytes)) where
    code : told ≡ front_shown stated room s.cursor.kept fanout (levels_of body) (levels fanout (tiles_of d footer))
        (body_bytes fanout (tiles_of d footer) (bytes_of_box d)) (inner_bytes fanout (tiles_of d footer) (bytes_of_box d))
    code =
        let p = footer-has g in
        h
        ∙ rw (own, g.said, g.tiles, g.description)
        (front-code stated room s.cursor.kept fanout 0 (tiles_of d footer) (bytes_of_box d) p.some-tiles p.most-tiles (box-bytes-most d) g.enough
        ∙ front-short stated room s.cursor.kept fanout 0 (levels_of body) _ _ _ few-kept)

    front-is : told ≡ shown d F footer stated room body
    unfolding shown_refusal
    front-is = rw (have-kept, no-counts) (go (dec_le 4 s.cursor.kept))
      where
        go : Dec (4 ≤ s.cursor.kept)
            → told ≡ otherwise (front_shown stated room s.cursor.kept (fanout_of body) (levels_of body) (levels (fanout_of body) (tiles_of d footer))
            (body_bytes (fanout_of body) (tiles_of d footer) (bytes_of_box d)) (inner_bytes (fanout_of body) (tiles_of d footer) (bytes_of_box d))) refusals.none
        go (yes l) =
            rw (e, fanout-held l) at code
            ∙ sym (front-alone stated room s.cursor.kept (fanout_of body) (levels_of body) _ _ _)
        go (no l) =
            code
            ∙ front-none stated room s.cursor.kept fanout (levels_of body) _ _ _ g.enough (omega arith)
            ∙ sym (rw (front-none stated room s.cursor.kept (fanout_of body) (levels_of body) (levels (fanout_of body) (tiles_of d footer))
            (body_bytes (fanout_of body) (tiles_of d footer) (bytes_of_box d)) (inner_bytes (fanout_of body) (tiles_of d footer) (bytes_of_box d)) g.enough (omega arith)) refl)

    pub front-ends-refused : (told.number ≡ 0 → ⊥)
        → parts_answer d F footer stated room body ≡ refused_in (which_of told.number) told
    front-ends-refused some =
        say-shown d F footer stated room body g.passed (λ z. some (rw (← front-is) at z)) ∙ rw (← front-is)

    pub front-ends-short : told.number ≡ 0
        → parts_answer d F footer stated room body ≡ refused_in 1 (refusals.refusal refusals.bytes s.cursor.kept)
    front-ends-short none =
        rw have-kept at (say-other d F footer stated room body g.passed (rw front-is at none) (λ z. omega (arith, all-kept, few-kept, g.enough)))
