-- What holds once some boxes of a level have come. What is told of them is what their level says (`run_is`); they stand
-- in the work buffer after those before them, and nothing that is still needed has moved (`mine-after`, `above-after`); so
-- the state stands at the next box, or at the count of the level below (`boxes-taken`).
-- Assumes nothing.
use mathlib.Core.Path.{◌≡◌, refl, ap, sym, ◌∙◌}
use mathlib.Core.Bool.{false}
use mathlib.Core.List.{List}
use Prim.Native.Nat.{ℕ, suc, ◌+◌, ◌-◌, ◌*◌, ◌≤◌, ◌<◌}
use native.Mathlib.Nat.{mul-le-mul_right}
use native.Mathlib.Decide.{dec_le}
use native.Mathlib.Omega.{arith}
use lib.Dec.{eqb}
use lib.ListN.{length, take, drop}
use lib.Seq.{take-add, drop-drop}
use borrow.Author.Tests.{eq-eqb, ne_eqb, lt-ltb, le-ltb}
use Rattle.answers.specs.Refusals as refusals
use Rattle.answers.specs.Checks.{otherwise, each}
use Rattle.answers.specs.declared.Refusal.{Refusal}
use Rattle.answers.proofs.Checks.{regroup}
use Rattle.description.specs.declared.Description.{Description}
use Rattle.description.specs.Description.{bytes_of_box}
use Rattle.tree.specs.Shape.{boxes, height, level_start}
use Rattle.tree.proofs.Root.{height-one}
use Rattle.tree.proofs.Places.{start-root, start-down}
use Rattle.footer.specs.Fields.{tiles_of, domain_bytes}
use Rattle.rtree.specs.Body.{fanout_of}
use Rattle.rtree.specs.Opening.{boxes_refusal}
use Rattle.parts_state.specs.declared.Cursor.{Cursor}
use Rattle.parts_state.specs.declared.Parts.{Parts}
use Rattle.parts_state.specs.Code.Rest.{box_check, boxes_from}
use Rattle.parts_state.specs.Code.State.{InTree, Going, Holds}
use Rattle.parts.specs.Code.Runs.{run_check}
use Rattle.parts.specs.Code.Cursor.{onward, moved, lowered, passed}
use Rattle.parts.specs.Code.Steps.{Reads, Stored}
use Rattle.parts.proofs.Lists.{read-there, pasted-before, pasted-upto}
use Rattle.parts.proofs.Levels.{from-run, from_next, start-after, own_below, own-fits}
use Rattle.parts.proofs.Rows.{run-said, root_said}
use Rattle.parts.proofs.Front.{some_bytes, count-is, some-boxes}

module _ {d : Description} {F : ℕ} {footer : List ℕ} {stated : ℕ} {body work : List ℕ} {s : Parts} {p : ℕ}
    (g : Going d F footer stated body work s p) (some-fanout : 0 < s.cursor.fanout) (zero_number : s.cursor.number ≡ 0)
    (is-counted : 0 < s.cursor.counted) (none_kept : s.cursor.kept ≡ 0) (m : ℕ) (some : 0 < m) (few : m ≤ s.cursor.count - s.cursor.index)
    {bytes : List ℕ} (r : Reads body p bytes) (size : length bytes ≡ m * bytes_of_box s.description)
    (fits : p + length bytes ≤ stated) where
  abbrev n : ℕ
  n = tiles_of d footer

  abbrev b : ℕ
  b = bytes_of_box d

  abbrev f : ℕ
  f = fanout_of body

  abbrev j : ℕ
  j = s.cursor.level

  abbrev k : ℕ
  k = s.cursor.index

  abbrev domain : List ℕ
  domain = domain_bytes d footer

  abbrev t : InTree d F footer stated body work s
  t = g.tree some-fanout

  len : length bytes ≡ m * b
  len = rw g.description at size

  one : s.cursor.counted ≡ 1
  one = omega (arith, t.flag)

  here : p ≡ s.cursor.done
  here = omega (arith, g.here, none_kept)

  at : p ≡ level_start f n b j + k * b
  at = omega (arith, here, t.place, one)

  there : p + length bytes ≤ length body
  there = read-there body p bytes r (omega (arith, len, mul-le-mul_right b some, some_bytes g))

  in-level : k + m ≤ boxes f n j
  in-level = omega (arith, few, count-is g some-fanout is-counted, t.index, some)

  reads_at : Reads body (level_start f n b j + k * b) bytes
  reads_at = rw at at r

  -- what is told of them
  run_is : run_check s s.cursor work bytes m ≡ each (box_check d n domain body j) k m
  run_is = go (dec_le (suc j) (height f n))
    where
      go : Dec (suc j ≤ height f n) → run_check s s.cursor work bytes m ≡ each (box_check d n domain body j) k m
      go (yes l) =
          let up : j + suc (height f n - suc j) ≡ height f n = omega arith in
          let after = rw (up, start-root f n b) at (start-after f n b j (height f n - suc j) (omega arith)) in
          let other : eqb s.cursor.done 16 ≡ false = ne_eqb s.cursor.done 16 (λ e. omega (arith, here, at)) in
          let place : s.cursor.done ≡ level_start f n b j + k * b = omega (arith, here, at) in
          rw (other, g.description, t.fanout, place)
          (run-said d n domain body j k m s.cursor.parents bytes work (omega (arith, t.sized.least)) l in-level reads_at len (t.above l))
      go (no o) =
          let top : j ≡ height f n = omega (arith, t.near) in
          let single = height-one f n (omega (arith, t.sized.least)) t.sized.some in
          let alone : boxes f n j ≡ 1 = rw top single in
          let first : k ≡ 0 = omega (arith, in-level) in
          let only : m ≡ 1 = omega (arith, in-level) in
          let start : level_start f n b j ≡ 16 = rw top (start-root f n b) in
          let zero-bytes : k * b ≡ 0 = rw first (omega arith) in
          let place : s.cursor.done ≡ 16 = omega (arith, here, at) in
          let single-size : length bytes ≡ b = len ∙ rw only (omega arith) in
          let reads-root : Reads body 16 bytes = rw (here, place) at r in
          rw (eq-eqb s.cursor.done 16 place, g.description, g.domain, top, first, only)
          (root_said d n domain body bytes reads-root single-size (some_bytes g))

  module _ {fault : Refusal}
      (told : fault ≡ otherwise (refusals.refusal s.cursor.box_number s.cursor.box_place) (run_check s s.cursor work bytes m)) where
    fault-after : boxes_refusal d n body domain ≡ otherwise fault (boxes_from d n domain body j (k + m))
    fault-after =
        t.fault
        ∙ rw (from-run d n domain body j k m in-level)
        (sym (rw (told, run_is) (regroup (refusals.refusal s.cursor.box_number s.cursor.box_place) (each (box_check d n domain body j) k m) (boxes_from d n domain body j (k + m)))))

    module _ {to : ℕ} (place : to ≡ s.cursor.own + k * b) {after : List ℕ} (stored : Stored work j to bytes after) where
      down : 0 < j → suc (j - 1) ≡ j
      down h = omega arith

      -- the boxes of an inner level have room
      has_room : 0 < j → to + length bytes ≤ length work
      has_room h =
          let z = down h in
          let fit = rw z at (own-fits f n b (j - 1) (omega (arith, t.near))) in
          omega (arith, place, t.own, len, fit, mul-le-mul_right b in-level, t.room)

      mine-after : 0 < j → take ((k + m) * b) (drop s.cursor.own after) ≡ take ((k + m) * b) (drop (level_start f n b j) body)
      mine-after h =
          let more : (k + m) * b ≡ k * b + length bytes = omega (arith, len) in
          rw (
            more,
            stored.some h (has_room h),
            pasted-upto work to bytes (has_room h) s.cursor.own (k * b) (sym place),
            t.mine h,
            take-add (k * b) (length bytes) (drop (level_start f n b j) body),
            drop-drop (k * b) (level_start f n b j) body,
            reads_at,
          )

      above-after : j < height f n
          → take (boxes f n (suc j) * b) (drop s.cursor.parents after)
          ≡ take (boxes f n (suc j) * b) (drop (level_start f n b (suc j)) body)
      above-after l = go (dec_le 1 j) ∙ t.above l
        where
          go : Dec (1 ≤ j) → take (boxes f n (suc j) * b) (drop s.cursor.parents after) ≡ take (boxes f n (suc j) * b) (drop s.cursor.parents work)
          go (yes h) =
              rw (stored.some h (has_room h))
              (pasted-before work to bytes (has_room h) s.cursor.parents (boxes f n (suc j) * b)
              (omega (arith, place, t.own, t.parents l, own_below f n b j l)))
          go (no h) = rw (stored.none (omega arith))

      abbrev next : Cursor
      next = moved s.cursor (k + m) (s.cursor.done + length bytes) fault

      -- at the next box of the level, or past the last leaf
      same-level : (k + m ≡ boxes f n j → j ≡ 0) → InTree d F footer stated body after (onward s next)
      same-level end = record {
        sized = t.sized;
        fanout = t.fanout;
        level-number = t.level-number;
        leveled = t.leveled;
        whole = t.whole;
        room = omega (arith, t.room, stored.room);
        near = t.near;
        flag = t.flag;
        fresh = λ e. absurd (omega arith);
        none = t.none;
        count = t.count;
        place = omega (arith, here, at, len, one);
        index = in-level;
        last = end;
        counts = λ i near later. t.counts i near (omega (arith, one));
        own = t.own;
        parents = t.parents;
        idle = t.idle;
        fault = fault-after;
        above = above-after;
        mine = mine-after;
      }

      -- at the count of the level below
      level-below : 0 < j → k + m ≡ boxes f n j → InTree d F footer stated body after (onward s (lowered next (to + length bytes)))
      level-below h all =
          let z = down h in
          let near : suc (j - 1) ≤ height f n = omega (arith, t.near) in
          let none : 0 * b ≡ 0 = omega arith in
          let lower = rw z at (start-down f n b (j - 1) near) in
          let lower-own = rw z at (own_below f n b (j - 1) near) in
          let every : (k + m) * b ≡ boxes f n j * b = rw all refl in
          record {
            sized = t.sized;
            fanout = t.fanout;
            level-number = t.level-number;
            leveled = t.leveled;
            whole = t.whole;
            room = omega (arith, t.room, stored.room);
            near = omega (arith, t.near);
            flag = omega arith;
            fresh = λ _. refl;
            none = λ _. refl;
            count = λ l. absurd (omega arith);
            place = omega (arith, here, at, len, every, lower);
            index = omega arith;
            last = λ e. absurd (omega (arith, some-boxes g some-fanout (j - 1)));
            counts = λ i near later. t.counts i near (omega (arith, one));
            own = omega (arith, place, t.own, len, every, lower-own);
            parents = λ _. rw z t.own;
            idle = λ o. absurd (o (omega (arith, t.near)));
            fault = fault-after ∙ rw all (ap (otherwise fault) (rw z at (from_next d n domain body (j - 1) near)));
            above = λ _. rw z (rw all at (mine-after h));
            mine = λ _. rw none;
          }

      holds_same : (k + m ≡ boxes f n j → j ≡ 0) → Holds d F footer stated body after (onward s next) (p + length bytes)
      holds_same end = record {
        decided = λ o. absurd (o zero_number);
        going = λ _. record {
          passed = g.passed;
          enough = g.enough;
          description = g.description;
          tiles = g.tiles;
          said = g.said;
          domain = g.domain;
          here = omega (arith, here, none_kept);
          within = fits;
          there = there;
          part = rw (ne_eqb s.cursor.counted 0 (λ e. omega (arith, one)), none_kept) (some_bytes g);
          held = rw none_kept refl;
          blank = λ z. absurd (omega arith);
          tree = λ _. same-level end;
        };
      }

      holds-below : 0 < j → k + m ≡ boxes f n j
          → Holds d F footer stated body after (onward s (lowered next (to + length bytes))) (p + length bytes)
      holds-below h all = record {
        decided = λ o. absurd (o zero_number);
        going = λ _. record {
          passed = g.passed;
          enough = g.enough;
          description = g.description;
          tiles = g.tiles;
          said = g.said;
          domain = g.domain;
          here = omega (arith, here, none_kept);
          within = fits;
          there = there;
          part = omega (arith, none_kept);
          held = rw none_kept refl;
          blank = λ z. absurd (omega arith);
          tree = λ _. level-below h all;
        };
      }

      pub boxes-taken : {own : ℕ} → own ≡ to + length bytes
          → Holds d F footer stated body after (onward s (passed next own)) (p + length bytes)
      boxes-taken {own} o = go (dec_le (suc (k + m)) s.cursor.count) (dec_le 1 j)
        where
          is : s.cursor.count ≡ boxes f n j
          is = count-is g some-fanout is-counted

          go : Dec (suc (k + m) ≤ s.cursor.count) → Dec (1 ≤ j)
              → Holds d F footer stated body after (onward s (passed next own)) (p + length bytes)
          go (yes l) q = rw (lt-ltb (k + m) s.cursor.count l) (holds_same (λ e. absurd (omega (arith, is))))
          go (no l) (yes h) =
              rw (le-ltb (k + m) s.cursor.count (omega arith), ne_eqb j 0 (λ e. omega arith), o)
              (holds-below h (omega (arith, is, in-level)))
          go (no l) (no h) =
              rw (le-ltb (k + m) s.cursor.count (omega arith), eq-eqb j 0 (omega arith)) (holds_same (λ _. omega arith))
