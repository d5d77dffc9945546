-- A line as it is read: the ends of one more dimension, the numbers after them, and what comes of the record.
-- Assumes nothing.
use mathlib.Core.Path.{◌≡◌, refl, ap, sym, ◌∙◌}
use mathlib.Core.Bool.{Bool, true, false, true≢false, ◌&&◌, cond}
use mathlib.Core.List.{List}
use Prim.Native.Nat.{ℕ, suc, ◌+◌, ◌*◌, ◌≤◌, ◌<◌}
use native.Mathlib.Nat.{zero-add}
use native.Mathlib.Numerals.{add-one}
use native.Mathlib.Omega.{arith}
use lib.Dec.{eqb}
use lib.ListN.{length, set}
use borrow.Author.Tests.{le-leb, lt-leb, eq-eqb, ne_eqb}
use Rattle.std.proofs.lemmas.Option.{none-some, same_Some}
use Rattle.answers.specs.Runs.{filled}
use Rattle.answers.proofs.Runs.{over_done, over-snoc, over-says}
use Rattle.answers.proofs.Filled.{filled_none, filled_more}
use Rattle.description.specs.declared.Dimension.{Dimension}
use Rattle.description.specs.declared.Description.{Description}
use Rattle.description.specs.Description.{kind_at, sides_of}
use Rattle.description.proofs.Tests.{both, and_assoc, and-true, and-false}
use Rattle.boxes.specs.declared.Side.{Side}
use Rattle.boxes.specs.Boxes.{all, no_side, no_box}
use Rattle.query.specs.declared.Answer.{Answer}
use Rattle.query.specs.Query.{query_answer}
use Rattle.ranges.specs.declared.Range.{Range}
use Rattle.std.specs.Prelude.{Some, None, unwrap_or}
use Rattle.range_text.specs.Ranges.{number64, read_range}
use Rattle.text.specs.Text.{Bytes, tab, parts, part}
use Rattle.text.specs.Cursor.{piece_from}
use Rattle.text.specs.Code.Places.{AtPart}
use Rattle.text.proofs.Pieces.{piece_inside, piece-ends}
use Rattle.text.proofs.Parts.{first-start, this-part, past-part, last-part}
use Rattle.replay.specs.declared.Logged.{Logged}
use Rattle.replay.specs.Records.{dimension_range, dimension_read, dimension_side, logged_found, logged_looked, numbers_read, is_readable, logged_window}
use Rattle.replay.specs.Replay.{compared_text, bad_text, is_good, is_good_by, record_text, record_text_by}
use Rattle.replay.specs.Code.Reading.{Read, logged_of}

all_more : (g : ℕ → Bool) (m : ℕ) → all g 0 (m + 1) ≡ all g 0 m && g m
all_more g m = rw (add-one m) (over-snoc ◌&&◌ true and_assoc (λ a. refl) and-true g 0 m ∙ rw (zero-add m))

pub part-short : (line : Bytes) (at : ℕ) → length (piece_from tab line at) ≤ length line
part-short line at = omega (arith, piece_inside tab line at)

-- ---- two parts from a place on are parts k and k + 1, and the next one starts after them
pub record Two (line : Bytes) (k at : ℕ) (first second : Bytes) : Type 0 where
  pub one : first ≡ part tab k line
  pub other : second ≡ part tab (k + 1) line
  pub next : AtPart tab line (k + 2) (at + length first + 1 + length second + 1)
  pub last : eqb (at + length first + 1 + length second) (length line) ≡ eqb (length (parts tab line)) (k + 2)

pub two : (line : Bytes) {k at : ℕ} {first second : Bytes} → AtPart tab line k at → first ≡ piece_from tab line at → second ≡ piece_from tab line (at + length first + 1)
    → Two line k at first second
two line {k} {at} {first} {second} p a b =
    let q : AtPart tab line (k + 1) (at + length first + 1) = rw (add-one k) (past-part tab line k p a) in
    let z : suc (k + 1) ≡ k + 2 = omega arith in
    record {
      one = a ∙ this-part tab line k p;
      other = b ∙ this-part tab line (k + 1) q;
      next = rw z at (past-part tab line (k + 1) q b);
      last = rw z at (last-part tab line (k + 1) q (piece-ends tab line (at + length first + 1) (ap length b)));
    }

-- one that does not pass
all-stopped : (g : ℕ → Bool) (m i : ℕ) → i < m → g i ≡ false → all g 0 m ≡ false
all-stopped g m i l e = go (all g 0 m) refl
  where
    go : (b : Bool) → all g 0 m ≡ b → all g 0 m ≡ false
    go true h = absurd (true≢false (sym (over-says ◌&&◌ true (λ b. b ≡ true) both g 0 m h i (omega arith) (omega arith)) ∙ e))
    go false h = h

-- ---- the ends of each dimension
module _ (kinds : List Dimension) (line : Bytes) where
  pub sides-none : {sides : List Side} → sides ≡ no_box → Read kinds line 0 sides 0
  sides-none e = record {
    good = over_done ◌&&◌ true (dimension_read kinds line) 0 0 (omega arith);
    sides = e ∙ sym (filled_none (dimension_side kinds line) no_side 4);
    place = first-start tab line;
    near = omega arith;
  }

  module _ (m : ℕ) {sides : List Side} {next : ℕ} {low high : Bytes} (s : Read kinds line m sides next)
      (a : low ≡ piece_from tab line next) (b : high ≡ piece_from tab line (next + length low + 1)) where
    pub sides-more : {range : Range} → m < 4 → length line ≤ 255 → Some range ≡ read_range (kind_at kinds m) low high
        → Read kinds line (m + 1) (set sides m (record { range = range })) (next + length low + 1 + length high + 1)
    sides-more {range} l short is =
        let t = two line s.place a b in
        let z : 2 * m + 2 ≡ 2 * (m + 1) = omega arith in
        let e : Some range ≡ dimension_range kinds line m = rw (← t.one, ← t.other) is in
        record {
          good = all_more (dimension_read kinds line) m ∙ rw (s.good, ← e);
          sides = rw (s.sides) (ap (λ (x : Side). set (filled (dimension_side kinds line) no_side m 4) m x) (rw (← e)) ∙ filled_more (dimension_side kinds line) no_side m 4 l);
          place = rw z at t.next;
          near = omega (arith, s.near, ap length a, ap length b, part-short line next, part-short line (next + length low + 1));
        }

    pub sides-unread : {D : ℕ} → m < D → None ≡ read_range (kind_at kinds m) low high → all (dimension_read kinds line) 0 D ≡ false
    sides-unread {D} l is =
        let t = two line s.place a b in
        let e : None ≡ dimension_range kinds line m = rw (← t.one, ← t.other) is in
        all-stopped (dimension_read kinds line) D m l (rw (← e))

-- ---- the whole line
module _ (d : Description) (line : Bytes) where
  pub unread-sides : all (dimension_read d.kinds line) 0 (sides_of d.dimensions) ≡ false → None ≡ logged_of d line
  unfolding numbers_read
  unread-sides e = rw (e, and-false)

  module _ {sides : List Side} {next : ℕ} (s : Read d.kinds line (sides_of d.dimensions) sides next) {first second : Bytes}
      (a : first ≡ piece_from tab line next) (b : second ≡ piece_from tab line (next + length first + 1)) where
    pub unread-end : (next + length first + 1 + length second ≡ length line → ⊥) → None ≡ logged_of d line
    unfolding numbers_read
    unread-end other = let t = two line s.place a b in rw (← t.last, ne_eqb _ _ other)

    module _ (end : next + length first + 1 + length second ≡ length line) where
      ended : eqb (length (parts tab line)) (2 * sides_of d.dimensions + 2) ≡ true
      ended = let t = two line s.place a b in sym t.last ∙ eq-eqb _ _ end

      pub unread-found : None ≡ number64 first → None ≡ logged_of d line
      unfolding numbers_read
      unread-found e =
          let t = two line s.place a b in
          let f : None ≡ logged_found d line = rw (← t.one) e in
          rw (ended, s.good, ← f)

      module _ {found : ℕ} (isf : Some found ≡ number64 first) where
        pub unread-looked : None ≡ number64 second → None ≡ logged_of d line
        unfolding numbers_read
        unread-looked e =
            let t = two line s.place a b in
            let f : Some found ≡ logged_found d line = rw (← t.one) isf in
            let g : None ≡ logged_looked d line = rw (← t.other) e in
            rw (ended, s.good, ← f, ← g)

        pub record-read : {looked : ℕ} → Some looked ≡ number64 second
            → Some (record { window = record { dimensions = d.dimensions; sides = sides }; logged = record { found = found; looked = looked } }) ≡ logged_of d line
        unfolding numbers_read logged_window
        record-read {looked} e =
            let t = two line s.place a b in
            let f : Some found ≡ logged_found d line = rw (← t.one) isf in
            let g : Some looked ≡ logged_looked d line = rw (← t.other) e in
            rw (ended, s.good, ← f, ← g, s.sides)

-- ---- what comes of a record
abbrev said : Description → Bytes → Logged
said d line = record {
  window = logged_window d line;
  logged = record { found = unwrap_or (logged_found d line) 0; looked = unwrap_or (logged_looked d line) 0 };
}

module _ (d : Description) (n : ℕ) (body line : Bytes) where
  bad : is_good d n body line ≡ false → (i : ℕ) → bad_text i ≡ record_text d n body i line
  unfolding record_text_by
  bad e i = rw e

  pub bad-long : 255 < length line → (i : ℕ) → bad_text i ≡ record_text d n body i line
  unfolding is_good_by is_readable
  bad-long h = bad (rw (lt-leb (length line) 255 h))

  module _ (short : length line ≤ 255) where
    pub bad-read : None ≡ logged_of d line → (i : ℕ) → bad_text i ≡ record_text d n body i line
    unfolding is_good_by is_readable
    bad-read e = bad (rw (le-leb (length line) 255 short, (unlogged e)))
      where
        unlogged : None ≡ logged_of d line → numbers_read d line ≡ false
        unlogged e = go (numbers_read d line) e
          where
            go : (b : Bool) → None ≡ cond b (Some (said d line)) None → b ≡ false
            go true e = absurd (none-some _ e)
            go false e = refl

    module _ {r : Logged} (is : Some r ≡ logged_of d line) where
      logged : (numbers_read d line ≡ true) × (r ≡ said d line)
      logged = go (numbers_read d line) is
        where
          go : (b : Bool) → Some r ≡ cond b (Some (said d line)) None → (b ≡ true) × (r ≡ said d line)
          go true e = (refl, same_Some _ _ e)
          go false e = absurd (none-some r (sym e))

      module _ {a : Answer} (now : a ≡ query_answer d n body r.window) where
        answered : a ≡ query_answer d n body (logged_window d line)
        answered = now ∙ rw logged.1

        pub bad-query : (a.number ≡ 0 → ⊥) → (i : ℕ) → bad_text i ≡ record_text d n body i line
        unfolding is_good_by is_readable
        bad-query some = bad (rw (le-leb (length line) 255 short, logged.0, ← answered) (ne_eqb a.number 0 some))

        pub good-query : a.number ≡ 0 → (i : ℕ)
            → compared_text i r.logged.found r.logged.looked a.found a.looked ≡ record_text d n body i line
        unfolding record_text_by is_good_by is_readable
        good-query none i = rw (le-leb (length line) 255 short, logged.0, ← answered, eq-eqb a.number 0 none, logged.1)
