-- What holds of bytes that came in part. Held after those that are held already, they are the next of the body
-- (`held_more`); a state that holds more of them, or none any more, otherwise stays as it is (`regrip`). So what is
-- gathered of what comes next is some of it (`part-holds`), or it stands whole in the bytes from which it is taken
-- (`stands`).
-- Assumes nothing.
use mathlib.Core.Path.{◌≡◌, refl, ap, sym, ◌∙◌}
use mathlib.Core.Bool.{Bool, true, false, cond}
use mathlib.Core.List.{List}
use Prim.Native.Nat.{ℕ, ◌+◌, ◌-◌, ◌≤◌, ◌<◌}
use native.Mathlib.Decide.{dec_le}
use native.Mathlib.Omega.{arith}
use lib.Dec.{eqb}
use lib.ListN.{length, take, drop, length-take}
use lib.Seq.{sets, length-sets, take-add, drop-drop}
use borrow.Author.Tests.{eq-eqb, ne_eqb}
use Rattle.description.specs.declared.Description.{Description}
use Rattle.description.specs.Description.{bytes_of_box}
use Rattle.rtree.proofs.Passed.{box-bytes-most}
use Rattle.parts_state.specs.declared.Cursor.{Cursor}
use Rattle.parts_state.specs.declared.Parts.{Parts}
use Rattle.parts_state.specs.Code.State.{item_bytes, InTree, Going}
use Rattle.parts.specs.Code.Cursor.{with_cursor, keeping}
use Rattle.parts.specs.Code.Steps.{InRange, Gathered, Reads, Part, Whole}
use Rattle.parts.proofs.Lists.{read_first, read-there, upto}

module _ {d : Description} {F : ℕ} {footer : List ℕ} {stated : ℕ} {body work : List ℕ} {s : Parts} {p : ℕ}
    (g : Going d F footer stated body work s p) where
  -- more of the bytes of what comes next
  module _ {bytes : List ℕ} (r : Reads body p bytes) {held : List ℕ}
      (pasted : held ≡ sets s.held s.cursor.kept bytes) (room : s.cursor.kept + length bytes ≤ length s.held) where
    pub held_more : take (s.cursor.kept + length bytes) held ≡ take (s.cursor.kept + length bytes) (drop s.cursor.done body)
    held_more =
        rw (
          pasted,
          upto s.held s.cursor.kept bytes room,
          g.held,
          take-add s.cursor.kept (length bytes) (drop s.cursor.done body),
          drop-drop s.cursor.kept s.cursor.done body,
          g.here,
          r,
        )

  -- a state that holds other bytes is the same otherwise
  regrip-tree : (held : List ℕ) (kept : ℕ) → InTree d F footer stated body work s
      → InTree d F footer stated body work (with_cursor s held (keeping s.cursor kept))
  regrip-tree held kept t = record {
    sized = t.sized;
    fanout = t.fanout;
    level-number = t.level-number;
    leveled = t.leveled;
    whole = t.whole;
    room = t.room;
    near = t.near;
    flag = t.flag;
    fresh = t.fresh;
    none = t.none;
    count = t.count;
    place = t.place;
    index = t.index;
    last = t.last;
    counts = t.counts;
    own = t.own;
    parents = t.parents;
    idle = t.idle;
    fault = t.fault;
    above = t.above;
    mine = t.mine;
  }

  pub regrip : (held : List ℕ) (kept q : ℕ) → s.cursor.done + kept ≡ q → kept < item_bytes (bytes_of_box d) s.cursor.counted → q ≤ stated → q ≤ length body
      → take kept held ≡ take kept (drop s.cursor.done body)
      → Going d F footer stated body work (with_cursor s held (keeping s.cursor kept)) q
  regrip held kept q here part within there same = record {
    passed = g.passed;
    enough = g.enough;
    description = g.description;
    tiles = g.tiles;
    said = g.said;
    domain = g.domain;
    here = here;
    within = within;
    there = there;
    part = part;
    held = same;
    blank = λ z. let k = g.blank z in record {
      counted = k.counted;
      done = k.done;
      level = k.level;
      index = k.index;
      own = k.own;
      parents = k.parents;
      count = k.count;
    };
    tree = λ z. regrip-tree held kept (g.tree z);
  }

  -- what comes next is held whole: its bytes are the next from where it starts, and none are held any more
  module _ {bytes : List ℕ} (r : Reads body p bytes) {held : List ℕ}
      (pasted : held ≡ sets s.held s.cursor.kept bytes) (room : s.cursor.kept + length bytes ≤ length s.held)
      {item : ℕ} (all : s.cursor.kept + length bytes ≡ item) where
    held-size : length (take item held) ≡ item
    held-size =
        let size : length held ≡ length s.held = ap length pasted ∙ simp length-sets in
        rw length-take (omega (arith, size))

    pub held_reads : Reads body s.cursor.done (take item held)
    held_reads = rw (held-size, ← all) (sym (held_more r pasted room))

-- no number and no box has more bytes
pub item-most : (d : Description) (counted : ℕ) → item_bytes (bytes_of_box d) counted ≤ 64
item-most d counted = go (eqb counted 0)
  where
    go : (t : Bool) → cond t 8 (bytes_of_box d) ≤ 64
    go true = omega arith
    go false = omega (arith, box-bytes-most d)

-- fewer bytes are in range too
pub fewer : {stated b : ℕ} {c : Cursor} {left : ℕ} → InRange stated b c left → (m : ℕ) → m ≤ left → InRange stated b c m
fewer r m h = record {
  most = r.most;
  within = r.within;
  fanout = r.fanout;
  own = r.own;
  parents = r.parents;
  part = r.part;
  room = omega (arith, r.room);
}

-- What is gathered of what comes next; and where it is whole, the bytes from which it is taken.
module _ {held : List ℕ} {kept : ℕ} {bytes : List ℕ} {item have : ℕ} {after : List ℕ}
    (h : Gathered held kept bytes item have after) (part : kept < item) (room : item ≤ length held) where
  abbrev more : List ℕ
  more = take (have - kept) bytes

  pub more-few : have - kept ≤ length bytes
  more-few = go (dec_le 1 have)
    where
      go : Dec (1 ≤ have) → have - kept ≤ length bytes
      go (yes l) = omega (arith, h.some l)
      go (no l) = omega arith

  pub more-size : length more ≡ have - kept
  more-size = rw length-take (omega (arith, more-few))

  module _ (all : 0 < have → item ≤ have) {from : List ℕ} (e : from ≡ cond (eqb have 0) bytes (take item after)) where
    pub have-item : 0 < have → have ≡ item
    have-item l = omega (arith, all l, h.some l)

    pub from-held : 0 < have → from ≡ take item after
    from-held l = e ∙ rw (ne_eqb have 0 (λ z. omega arith))

    pub from_block : have ≡ 0 → from ≡ bytes
    from_block z = e ∙ rw (eq-eqb have 0 z)

    pub from-item : 0 < have → length from ≡ item
    from-item l = rw (from-held l, length-take) (omega (arith, h.room))

    pub whole-least : item ≤ length from
    whole-least = go (dec_le 1 have)
      where
        go : Dec (1 ≤ have) → item ≤ length from
        go (yes l) = omega (arith, from-item l)
        go (no l) =
            let z : have ≡ 0 = omega arith in
            rw (from_block z) (h.none z).1

module _ {d : Description} {F : ℕ} {footer : List ℕ} {stated : ℕ} {body work : List ℕ} {s : Parts} {p : ℕ}
    (g : Going d F footer stated body work s p) {bytes : List ℕ} (r : Reads body p bytes) (some : 0 < length bytes)
    (fits : p + length bytes ≤ stated) {item have : ℕ} {held : List ℕ} (own : item ≡ item_bytes (bytes_of_box d) s.cursor.counted)
    (room : item ≤ length s.held) (h : Gathered s.held s.cursor.kept bytes item have held) where
  part-item : s.cursor.kept < item
  part-item = omega (arith, g.part, own)

  there : p + length bytes ≤ length body
  there = read-there body p bytes r some

  size : length (take (have - s.cursor.kept) bytes) ≡ have - s.cursor.kept
  size = more-size h part-item room

  few : have - s.cursor.kept ≤ length bytes
  few = more-few h part-item room

  first : Reads body p (take (have - s.cursor.kept) bytes)
  first = read_first body p bytes r (have - s.cursor.kept) few

  fits-held : 0 < have → s.cursor.kept + length (take (have - s.cursor.kept) bytes) ≤ length s.held
  fits-held l = omega (arith, size, h.some l, part-item, room)

  -- some of it is there
  pub part-holds : s.cursor.number ≡ 0 → 0 < have → have < item
      → Part d F footer stated body work (with_cursor s held (keeping s.cursor have)) p (length bytes)
  part-holds zero l short =
      let now : s.cursor.kept + length (take (have - s.cursor.kept) bytes) ≡ have = omega (arith, size, h.some l) in
      record {
        taken = have - s.cursor.kept;
        some = omega (arith, h.some l, part-item, some);
        few = few;
        holds = record {
          decided = λ o. absurd (o zero);
          going = λ _.
              regrip g held have (p + (have - s.cursor.kept)) (omega (arith, g.here, h.some l)) (omega (arith, own))
              (omega (arith, fits, few)) (omega (arith, there, few)) (rw now at (held_more g first h.pasted (fits-held l)));
        };
      }

  -- It stands whole in the bytes from which it is taken: where they start in the body, and how far taking so many of
  -- them goes.
  pub record Stands (from : List ℕ) : Type 0 where
    pub start : ℕ
    pub going : Going d F footer stated body work (with_cursor s held (keeping s.cursor 0)) start
    pub reads : Reads body start from
    pub inside : start + length from ≤ stated
    pub onward : (m : ℕ) → item ≤ m → p < start + m
    pub upto : (m : ℕ) → m ≤ length from → start + m ≤ p + length bytes

  pub stands : (all : 0 < have → item ≤ have) {from : List ℕ} → from ≡ cond (eqb have 0) bytes (take item held) → Stands from
  stands all {from} e = go (dec_le 1 have)
    where
      let_go : (q : ℕ) → s.cursor.done + 0 ≡ q → q ≤ p → Going d F footer stated body work (with_cursor s held (keeping s.cursor 0)) q
      let_go q z before = regrip g held 0 q z (omega (arith, part-item, own)) (omega (arith, g.within)) (omega (arith, g.there)) refl

      go : Dec (1 ≤ have) → Stands from
      go (yes l) =
          let is = have-item h part-item room all e l in
          let long = from-item h part-item room all e l in
          let whole : s.cursor.kept + length (take (have - s.cursor.kept) bytes) ≡ item = omega (arith, size, h.some l, is) in
          record {
            start = s.cursor.done;
            going = let_go s.cursor.done (omega arith) (omega (arith, g.here));
            reads = rw (from-held h part-item room all e l) (held_reads g first h.pasted (fits-held l) whole);
            inside = omega (arith, long, g.here, is, few, fits);
            onward = λ m o. omega (arith, g.here, part-item);
            upto = λ m o. omega (arith, long, g.here, is, few);
          }
      go (no l) =
          let z : have ≡ 0 = omega arith in
          let block = from_block h part-item room all e z in
          record {
            start = p;
            going = let_go p (omega (arith, g.here, (h.none z).0)) (omega arith);
            reads = rw block r;
            inside = rw block fits;
            onward = λ m o. omega (arith, part-item);
            upto = λ m o. omega (arith, ap length block);
          }

  -- and what is taken of it is some of the bytes
  pub whole-part : {from : List ℕ} (t : Stands from) {after : List ℕ} {q : Parts} → Whole d F footer stated body after q t.start item (length from)
      → Part d F footer stated body after q p (length bytes)
  whole-part t w =
      let on = t.onward w.taken w.least in
      let up = t.upto w.taken w.few in
      let place : p + (t.start + w.taken - p) ≡ t.start + w.taken = omega (arith, on) in
      record {
        taken = t.start + w.taken - p;
        some = omega (arith, on);
        few = omega (arith, on, up);
        holds = rw place w.holds;
      }
