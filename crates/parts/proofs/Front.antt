-- What holds while bytes come: what is shown before the counts is what code works out of the shape (`front-code`); the
-- numbers of a state are in range (`in-range`); once the first eight bytes are there, what they show is refused for
-- good (`front-refused`), or the state stands at the root's count (`front-passed`); a count that is wrong is refused
-- for good (`count-refused`), one that is right is passed by (`count-passed`).
-- Assumes nothing.
use mathlib.Core.Path.{◌≡◌, refl, sym, ◌∙◌}
use mathlib.Core.Bool.{Bool, true, false}
use mathlib.Core.List.{List}
use Prim.Native.Nat.{ℕ, zero, suc, ◌+◌, ◌-◌, ◌*◌, ◌≤◌, ◌<◌, min}
use native.Mathlib.Nat.{mul-le-mul}
use native.Mathlib.Decide.{dec_le}
use native.Mathlib.Omega.{arith}
use lib.Dec.{leb}
use lib.ListN.{length, get_or, take, drop}
use borrow.Author.Tests.{eq-eqb, le-ltb, le-leb, leb-false, eqb-true, ltb-false, not-false}
use Rattle.answers.specs.Refusals as refusals
use Rattle.answers.specs.Runs.{over}
use Rattle.answers.specs.Checks.{first}
use Rattle.answers.specs.declared.Refusal.{Refusal}
use Rattle.answers.proofs.Checks.{halt, clear, check-clear}
use Rattle.order.specs.Little.{little}
use Rattle.order.proofs.Little.{little-part}
use Rattle.description.specs.declared.Description.{Description}
use Rattle.description.specs.Description.{bytes_of_box}
use Rattle.description.specs.Limits.{least_tiles, most_tiles, least_fanout, most_fanout, outside, Sizes}
use Rattle.description.proofs.Limits.{within, not-outside}
use Rattle.tree.specs.Shape.{boxes, boxes_above, height, levels, level_start, body_bytes, all_boxes, most_box_bytes, shape_of}
use Rattle.tree.proofs.Counts.{boxes-pos}
use Rattle.tree.proofs.Limits.{root-near, boxes-small}
use Rattle.tree.proofs.Places.{start-root, leaves-end}
use Rattle.tree.proofs.Table.{shape-levels, shape-boxes, shape-bytes, count_at, count_most}
use Rattle.footer.specs.Fields.{tiles_of, domain_bytes}
use Rattle.footer.proofs.Passed.{Passed, passed}
use Rattle.rtree.specs.Body.{fanout_of, levels_of, count_place, stored_count}
use Rattle.rtree.proofs.Passed.{box-bytes-most}
use Rattle.parts_state.specs.declared.Parts.{Parts}
use Rattle.parts_state.specs.Parts.{inner_bytes, front_shown, counts_shown, shown_refusal, which_of}
use Rattle.parts_state.specs.Code.State.{InTree, Going, Holds}
use Rattle.parts_state.proofs.Shown.{shown, say-shown, front-have, front-none, count-stops}
use Rattle.parts.specs.Code.Cursor.{onward, refused, fronted, counted}
use Rattle.parts.specs.Code.Steps.{most_work, InRange, inner_in, Reads}
use Rattle.parts.proofs.Lists.{read-there}
use Rattle.parts.proofs.Levels.{own-fits, own_root, from_first}

-- the inner boxes are all but the leaves
pub inner-boxes : (f n : ℕ) → all_boxes f n - n ≡ boxes_above f n 0
unfolding all_boxes boxes_above levels boxes over
inner-boxes f n =
    let z : height f n - 0 ≡ height f n = omega arith in
    rw z (omega arith)

-- what code works out of the shape is what is shown before the counts
module _ (stated room have f l n b : ℕ) (some : least_tiles ≤ n) (most : n ≤ most_tiles) (w : b ≤ most_box_bytes)
    (enough : 8 ≤ stated) where
  pub front-code :
      front_shown stated room have f l (shape_of f n b).levels (shape_of f n b).bytes (inner_in f n b)
      ≡ front_shown stated room have f l (levels f n) (body_bytes f n b) (inner_bytes f n b)
  unfolding front_shown first
  front-code = go (leb 4 have) refl (outside least_fanout most_fanout f) refl
    where
      go : (t : Bool) → leb 4 have ≡ t → (o : Bool) → outside least_fanout most_fanout f ≡ o
          → front_shown stated room have f l (shape_of f n b).levels (shape_of f n b).bytes (inner_in f n b)
          ≡ front_shown stated room have f l (levels f n) (body_bytes f n b) (inner_bytes f n b)
      go false e o q =
          let few = leb-false 4 have e in
          front-none stated room have f l (shape_of f n b).levels (shape_of f n b).bytes (inner_in f n b) enough few
          ∙ sym (front-none stated room have f l (levels f n) (body_bytes f n b) (inner_bytes f n b) enough few)
      go true e true q = rw (le-ltb stated 8 enough, e, q)
      go true e false q =
          let g = within least_fanout most_fanout f q in
          let z : Sizes n f = record { some = some; most = most; least = g.0; widest = g.1 } in
          rw (shape-bytes z b w, shape-levels z b w, shape-boxes z b w, inner-boxes f n)

inner-small : {n f : ℕ} (z : Sizes n f) (b : ℕ) → b ≤ most_box_bytes → inner_bytes f n b ≤ most_box_bytes * (25 * most_tiles)
inner-small {n} {f} z b w =
    let few : boxes_above f n 0 ≤ 25 * most_tiles = omega (arith, inner-boxes f n, boxes-small z) in
    mul-le-mul w few

-- no level's place in the work buffer is past the inner boxes
own-small : (f n b j : ℕ) → j ≤ height f n → b * boxes_above f n j ≤ inner_bytes f n b
own-small f n b zero h = omega arith
own-small f n b (suc j) h = omega (arith, own-fits f n b j h)

module _ {d : Description} {F : ℕ} {footer : List ℕ} {stated : ℕ} {body work : List ℕ} {s : Parts} {p : ℕ}
    (g : Going d F footer stated body work s p) where
  abbrev n : ℕ
  n = tiles_of d footer

  abbrev b : ℕ
  b = bytes_of_box d

  abbrev f : ℕ
  f = fanout_of body

  pub footer-has : Passed d F footer
  footer-has = passed d F footer g.passed

  pub some_bytes : 0 < b
  some_bytes = omega (arith, footer-has.head.description.some_bytes)

  pub in-range : (left : ℕ) → p + left ≤ stated → InRange s.stated b s.cursor left
  in-range left fits = go (dec_le 1 s.cursor.fanout)
    where
      room : left ≤ s.stated - (s.cursor.done + s.cursor.kept)
      room = omega (arith, g.said, g.here)

      go : Dec (1 ≤ s.cursor.fanout) → InRange s.stated b s.cursor left
      go (yes some) =
          let t = g.tree some in
          let few = inner-small t.sized b (box-bytes-most d) in
          let c = count_small t (dec_le 1 s.cursor.counted) in
          record {
            most = c.0;
            within = c.1;
            fanout = omega (arith, t.fanout, t.sized.widest);
            own = omega (arith, t.own, own-small f n b s.cursor.level t.near, few);
            parents = parents-small t few (dec_le (suc s.cursor.level) (height f n));
            part = g.part;
            room = room;
          }
        where
          count_small : InTree d F footer stated body work s → Dec (1 ≤ s.cursor.counted)
              → (s.cursor.count ≤ most_tiles) × (s.cursor.index ≤ s.cursor.count)
          count_small t (yes l) =
              let most = rw (count_at t.sized b (box-bytes-most d) s.cursor.level t.near) at
              (count_most t.sized b (box-bytes-most d) s.cursor.level) in
              (omega (arith, t.count l, most), omega (arith, t.count l, t.index))
          count_small t (no l) =
              let none : s.cursor.counted ≡ 0 = omega arith in
              (omega (arith, t.none none), omega (arith, t.fresh none))

          parents-small : InTree d F footer stated body work s → inner_bytes f n b ≤ most_box_bytes * (25 * most_tiles)
              → Dec (suc s.cursor.level ≤ height f n) → s.cursor.parents ≤ most_work
          parents-small t few (yes l) = omega (arith, t.parents l, own-small f n b (suc s.cursor.level) l, few)
          parents-small t few (no l) = omega (arith, t.idle (λ h. l h))
      go (no none) =
          let k = g.blank (omega arith) in
          record {
            most = omega (arith, k.count);
            within = omega (arith, k.index);
            fanout = omega arith;
            own = omega (arith, k.own);
            parents = omega (arith, k.parents);
            part = g.part;
            room = room;
          }

  -- the first eight bytes
  module _ (zero_number : s.cursor.number ≡ 0) (blank : s.cursor.fanout ≡ 0) (none_kept : s.cursor.kept ≡ 0) {bytes : List ℕ} (r : Reads body p bytes) (eight : length bytes ≡ 8) where
    at-start : p ≡ 0
    at-start = omega (arith, g.here, (g.blank blank).done)

    there : 8 ≤ length body
    there = omega (arith, read-there body p bytes r (omega (arith, eight)), eight, at-start)

    bytes-first : take 8 (drop 0 body) ≡ bytes
    bytes-first = rw (eight, at-start) at r

    pub fanout-read : little bytes 0 4 ≡ f
    fanout-read = rw (← bytes-first) (little-part body 0 8 0 4 (omega arith))

    pub levels-read : little bytes 4 4 ≡ levels_of body
    levels-read = rw (← bytes-first) (little-part body 0 8 4 4 (omega arith))

    abbrev pub front : Refusal
    front = front_shown stated (length work) 8 f (levels_of body) (levels f n) (body_bytes f n b) (inner_bytes f n b)

    -- as code works it out
    pub front-said : {told : Refusal} {fanout level box-bytes : ℕ} → box-bytes ≡ bytes_of_box s.description → fanout ≡ little bytes 0 4 → level ≡ little bytes 4 4
        → told ≡ front_shown s.stated (length work) 8 fanout level (shape_of fanout s.tiles box-bytes).levels (shape_of fanout s.tiles box-bytes).bytes (inner_in fanout s.tiles box-bytes)
        → told ≡ front
    front-said own e l h =
        h
        ∙ rw (own, e, l, fanout-read, levels-read, g.said, g.tiles, g.description)
        (front-code stated (length work) 8 f (levels_of body) n b footer-has.some-tiles footer-has.most-tiles (box-bytes-most d) g.enough)

    have-eight : 8 ≤ min (length body) stated
    have-eight = omega (arith, there, g.enough)

    pub front-refused : {told : Refusal} → told ≡ front → (told.number ≡ 0 → ⊥)
        → Holds d F footer stated body work (onward s (refused s.cursor (which_of told.number) told.number told.place)) (p + 8)
    unfolding shown_refusal
    front-refused {told} e some =
        let same = front-have stated (length work) (min (length body) stated) f (levels_of body) (levels f n) (body_bytes f n b) (inner_bytes f n b) have-eight in
        let said : shown d F footer stated (length work) body ≡ told =
        halt _ (counts_shown n b (min (length body) stated) body) (λ z. some (rw (same, ← e) at z)) ∙ same ∙ sym e in
        record {
          decided = λ _. say-shown d F footer stated (length work) body g.passed (λ z. some (rw said at z)) ∙ rw said;
          going = λ z. absurd (some z);
        }

    -- what they have to be
    pub record Fronted : Type 0 where
      pub sized : Sizes n f
      pub leveled : levels_of body ≡ levels f n
      pub whole : stated ≡ body_bytes f n b
      pub room : inner_bytes f n b ≤ length work

    pub front-has : front.number ≡ 0 → Fronted
    unfolding front_shown
    front-has z =
        let a = clear _ _ z in
        let o = clear _ _ a.1 in
        let l = clear _ _ o.1 in
        let w = clear _ _ l.1 in
        let r = clear _ _ w.1 in
        let h = within least_fanout most_fanout f (check-clear _ _ _ (omega arith) o.0) in
        record {
          sized = record { some = footer-has.some-tiles; most = footer-has.most-tiles; least = h.0; widest = h.1 };
          leveled = eqb-true _ _ (not-false _ (check-clear _ _ _ (omega arith) l.0));
          whole = eqb-true _ _ (not-false _ (check-clear _ _ _ (omega arith) w.0));
          room = ltb-false _ _ (check-clear _ _ _ (omega arith) r.0);
        }

    module _ (h : Fronted) where
      root-tree : InTree d F footer stated body work (onward s (fronted s.cursor f (levels_of body) (height f n)))
      root-tree = record {
        sized = h.sized;
        fanout = refl;
        level-number = refl;
        leveled = h.leveled;
        whole = h.whole;
        room = h.room;
        near = omega arith;
        flag = omega arith;
        fresh = λ _. refl;
        none = λ _. refl;
        count = λ l. absurd (omega arith);
        place = omega (arith, start-root f n b);
        index = omega arith;
        last = λ e. absurd (omega (arith, boxes-pos f n (height f n) (omega (arith, h.sized.least)) h.sized.some));
        counts = λ i near later. absurd (omega arith);
        own = rw (own_root f n b) (omega arith);
        parents = λ l. absurd (omega arith);
        idle = λ _. refl;
        fault = from_first d n (domain_bytes d footer) body (omega (arith, h.sized.least)) h.sized.some;
        above = λ l. absurd (omega arith);
        mine = λ _. let z : 0 * b ≡ 0 = omega arith in rw z;
      }

      pub front-passed : {fanout level top : ℕ} → fanout ≡ f → level ≡ levels_of body → top ≡ height f n
          → Holds d F footer stated body work (onward s (fronted s.cursor fanout level top)) (p + 8)
      front-passed e l top =
          rw (e, l, top) (record {
            decided = λ some. absurd (some zero_number);
            going = λ _. record {
              passed = g.passed;
              enough = g.enough;
              description = g.description;
              tiles = g.tiles;
              said = g.said;
              domain = g.domain;
              here = omega (arith, none_kept, at-start);
              within = omega (arith, at-start, g.enough);
              there = omega (arith, at-start, there);
              part = omega (arith, none_kept);
              held = rw none_kept refl;
              blank = λ e. absurd (omega (arith, h.sized.least));
              tree = λ _. root-tree;
            };
          })

  -- a count comes after them
  pub is-tree : 0 < s.cursor.counted → 0 < s.cursor.fanout
  is-tree h = go (dec_le 1 s.cursor.fanout)
    where
      go : Dec (1 ≤ s.cursor.fanout) → 0 < s.cursor.fanout
      go (yes l) = l
      go (no l) = absurd (omega (arith, (g.blank (omega arith)).counted))

  -- past the first eight bytes they show nothing
  module _ (some-fanout : 0 < s.cursor.fanout) where
    abbrev t : InTree d F footer stated body work s
    t = g.tree some-fanout

    pub front-clear : (have : ℕ) → 8 ≤ have
        → front_shown stated (length work) have f (levels_of body) (levels f n) (body_bytes f n b) (inner_bytes f n b) ≡ refusals.none
    unfolding front_shown first
    front-clear have h =
        rw (
          le-ltb stated 8 g.enough,
          le-leb 4 have (omega arith),
          le-leb 8 have h,
          not-outside least_fanout most_fanout f t.sized.least t.sized.widest,
          eq-eqb (levels_of body) (levels f n) t.leveled,
          eq-eqb stated (body_bytes f n b) t.whole,
          le-ltb (length work) (inner_bytes f n b) t.room,
        )

    pub shown-counts : (have : ℕ) → 8 ≤ have
        → shown_refusal n b have body stated (length work) ≡ counts_shown n b have body
    unfolding shown_refusal
    shown-counts have h = rw (front-clear have h)

    pub count-is : 0 < s.cursor.counted → s.cursor.count ≡ boxes f n s.cursor.level
    count-is = t.count

    -- as code works it out
    pub count-shaped : (c : ℕ) → c ≡ get_or (shape_of s.cursor.fanout s.tiles (bytes_of_box s.description)).table (2 * s.cursor.level + 1) 0
        → c ≡ boxes f n s.cursor.level
    count-shaped c e = e ∙ rw (t.fanout, g.tiles, g.description) (count_at t.sized b (box-bytes-most d) s.cursor.level t.near)

    pub near-root : s.cursor.level ≤ 24
    near-root = omega (arith, t.near, root-near t.sized)

    pub some-boxes : (j : ℕ) → 0 < boxes f n j
    some-boxes j = boxes-pos f n j (omega (arith, t.sized.least)) t.sized.some

    -- before the last byte a box is left of a level whose count has come
    pub box-left : 0 < s.cursor.counted → p < stated → s.cursor.index < s.cursor.count
    unfolding boxes
    box-left is-counted short = go (dec_le (suc s.cursor.index) (boxes f n s.cursor.level))
      where
        go : Dec (suc s.cursor.index ≤ boxes f n s.cursor.level) → s.cursor.index < s.cursor.count
        go (yes l) = omega (arith, count-is is-counted)
        go (no l) =
            let all : s.cursor.index ≡ boxes f n s.cursor.level = omega (arith, t.index) in
            let leaves = t.last all in
            let every : s.cursor.index ≡ n = all ∙ rw leaves in
            let place = rw (leaves, every) at t.place in
            absurd (omega (arith, place, t.flag, g.here, leaves-end f n b, t.whole))

    -- a count
    module _ (zero_number : s.cursor.number ≡ 0) (uncounted : s.cursor.counted ≡ 0) (none_kept : s.cursor.kept ≡ 0) {bytes : List ℕ} (r : Reads body p bytes)
        (eight : length bytes ≡ 8) (fits : p + 8 ≤ stated) where
      at_count : p + 8 ≡ level_start f n b s.cursor.level
      at_count =
          let k = t.fresh uncounted in
          let z : s.cursor.index * b ≡ 0 = rw k (omega arith) in
          omega (arith, g.here, none_kept, t.place, uncounted, z)

      count-there : p + 8 ≤ length body
      count-there = omega (arith, read-there body p bytes r (omega (arith, eight)), eight)

      pub count-read : little bytes 0 8 ≡ stored_count n b body s.cursor.level
      count-read =
          let place : count_place f n b s.cursor.level ≡ p + 0 = omega (arith, at_count) in
          let e = rw eight at r in
          rw (place, ← e) (little-part body p 8 0 8 (omega arith))

      pub count-refused : {stored : ℕ} → stored ≡ little bytes 0 8 → (stored ≡ boxes f n s.cursor.level → ⊥)
          → Holds d F footer stated body work (onward s (refused s.cursor 1 refusals.levels s.cursor.done)) (p + 8)
      count-refused e wrong =
          let have = min (length body) stated in
          let place : count_place f n b s.cursor.level ≡ s.cursor.done = omega (arith, at_count, g.here, none_kept) in
          let counts = count-stops n b have body s.cursor.level t.near
          (λ i near later. t.counts i near (omega (arith, uncounted)))
          (omega (arith, at_count, count-there, fits)) (λ right. wrong (e ∙ count-read ∙ right)) in
          let said : shown d F footer stated (length work) body ≡ refusals.refusal refusals.levels s.cursor.done =
          shown-counts have (omega (arith, count-there, fits)) ∙ counts ∙ rw place in
          record {
            decided = λ _. say-shown d F footer stated (length work) body g.passed (rw said (λ z. omega arith)) ∙ rw said;
            going = λ z. absurd (omega arith);
          }

      counted-tree : stored_count n b body s.cursor.level ≡ boxes f n s.cursor.level
          → InTree d F footer stated body work (onward s (counted s.cursor (boxes f n s.cursor.level) (s.cursor.done + 8)))
      counted-tree right = record {
        sized = t.sized;
        fanout = t.fanout;
        level-number = t.level-number;
        leveled = t.leveled;
        whole = t.whole;
        room = t.room;
        near = t.near;
        flag = omega arith;
        fresh = λ _. refl;
        none = λ e. absurd (omega arith);
        count = λ _. refl;
        place = let z : 0 * b ≡ 0 = omega arith in omega (arith, at_count, g.here, none_kept);
        index = omega arith;
        last = λ e. absurd (omega (arith, some-boxes s.cursor.level));
        counts = λ i near later. shown-counted i near later (dec_le (suc s.cursor.level) i);
        own = t.own;
        parents = t.parents;
        idle = t.idle;
        fault = rw (t.fresh uncounted) at t.fault;
        above = t.above;
        mine = λ _. let z : 0 * b ≡ 0 = omega arith in rw z;
      }
        where
          shown-counted : (i : ℕ) → i ≤ height f n → s.cursor.level < i + 1 → Dec (suc s.cursor.level ≤ i) → stored_count n b body i ≡ boxes f n i
          shown-counted i near later (yes l) = t.counts i near (omega (arith, uncounted))
          shown-counted i near later (no l) =
              let e : i ≡ s.cursor.level = omega arith in
              rw e right

      pub count-passed : {stored : ℕ} → stored ≡ little bytes 0 8 → stored ≡ boxes f n s.cursor.level
          → Holds d F footer stated body work (onward s (counted s.cursor (boxes f n s.cursor.level) (s.cursor.done + 8))) (p + 8)
      count-passed e right = record {
        decided = λ some. absurd (some zero_number);
        going = λ _. record {
          passed = g.passed;
          enough = g.enough;
          description = g.description;
          tiles = g.tiles;
          said = g.said;
          domain = g.domain;
          here = omega (arith, none_kept, g.here);
          within = fits;
          there = count-there;
          part = rw none_kept some_bytes;
          held = rw none_kept refl;
          blank = λ z. absurd (omega arith);
          tree = λ _. counted-tree (sym count-read ∙ sym e ∙ right);
        };
      }
