-- Runs of boxes of one level: what there is of one (`some_bytes`, `most_bytes`, `most-boxes`), the run after it
-- (`next-run`), and runs that were taken one after the other: none (`none-taken`), and one more (`more-taken`).
-- Assumes nothing.
use mathlib.Core.Path.{◌≡◌, refl, ap, ◌∙◌}
use mathlib.Core.List.{List}
use Prim.Native.Nat.{ℕ, ◌+◌, ◌*◌, ◌≤◌, ◌<◌}
use native.Mathlib.Nat.{add-zero}
use native.Mathlib.Omega.{arith}
use lib.ListN.{length, take, drop, length-take, length-drop}
use lib.Seq.{take-take}
use borrow.Author.Tests.{ne_eqb}
use Rattle.answers.specs.declared.Refusal.{Refusal}
use Rattle.answers.specs.Refusals.{refusal}
use Rattle.description.specs.Limits.{most_tiles}
use Rattle.tree.specs.Shape.{most_box_bytes}
use Rattle.rtree.proofs.Passed.{box-bytes-most}
use Rattle.parts_state.specs.declared.Cursor.{Cursor}
use Rattle.parts_state.specs.declared.Parts.{Parts}
use Rattle.parts.specs.Code.Cursor.{moved}
use Rattle.parts.specs.Code.Steps.{Reads, RunOf, TakesRun}
use Rattle.parts.proofs.Lists.{take-drop, read_first, read-rest}

module _ {s : Parts} {b : ℕ} {c : Cursor} {bytes : List ℕ} {m : ℕ} (run : RunOf s b c bytes m) where
  pub some_bytes : 0 < b
  some_bytes =
      let counted = run.counted in
      omega (arith, rw (ne_eqb c.counted 0 (λ e. omega (arith, counted))) at run.range.part)

  pub most_bytes : b ≤ most_box_bytes
  most_bytes = rw run.width (box-bytes-most s.description)

  pub most-boxes : c.index + m ≤ most_tiles
  most-boxes = omega (arith, run.few, run.range.most, run.range.within)

-- the boxes after the first a of a run, or some of them
pub next-run : {s : Parts} {b : ℕ} {c : Cursor} {bytes : List ℕ} {all : ℕ} → RunOf s b c bytes all
    → {mid : Cursor} {fault : Refusal} (a m : ℕ) → mid ≡ moved c (c.index + a) (c.done + a * b) fault
    → {next : List ℕ} → length next ≡ m * b → a * b + m * b ≤ length bytes → a + m ≤ all → RunOf s b mid next m
next-run {b = b} run a m here {next} size there fits = rw here (record {
  width = run.width;
  range = record {
    most = run.range.most;
    within = omega (arith, run.few, run.range.within);
    fanout = run.range.fanout;
    own = run.range.own;
    parents = run.range.parents;
    part = run.range.part;
    room = omega (arith, run.range.room, size, there);
  };
  size = size;
  few = omega (arith, run.few, fits);
  counted = run.counted;
})

module _ (s : Parts) (c : Cursor) (work bytes : List ℕ) where
  pub none-taken : (x : ℕ) → x ≡ 0 → TakesRun s c work (take x bytes) 0 c work
  none-taken x e =
      let size : length (take x bytes) ≡ 0 = rw length-take (omega arith) in
      record {
        room = refl;
        next = λ _. rw (size, add-zero c.index, add-zero c.done) refl;
        took = λ held d F footer stated body p zero g kept r fits.
            let z : p + length (take x bytes) ≡ p = omega (arith, size) in
            record { decided = λ o. absurd (o zero); going = λ _. rw z g };
      }

  -- x bytes that are a boxes, and then y that are m
  module _ (x y a m : ℕ) (there : x + y ≤ length bytes) {mid r : Cursor} {between after : List ℕ}
      (one : TakesRun s c work (take x bytes) a mid between)
      (two : TakesRun s mid between (take y (drop x bytes)) m r after) (more : c.index + a < c.count) where
    first : length (take x bytes) ≡ x
    first = rw length-take (omega arith)

    second : length (take y (drop x bytes)) ≡ y
    second = rw (length-take, length-drop) (omega arith)

    both : length (take (x + y) bytes) ≡ x + y
    both = rw length-take (omega arith)

    pub more-taken : TakesRun s c work (take (x + y) bytes) (a + m) r after
    more-taken =
        let here = one.next more in
        let index : mid.index ≡ c.index + a = ap (λ (q : Cursor). q.index) here in
        let count : mid.count ≡ c.count = ap (λ (q : Cursor). q.count) here in
        let done : mid.done ≡ c.done + x = ap (λ (q : Cursor). q.done) here ∙ ap (λ (q : ℕ). c.done + q) first in
        let number : mid.number ≡ c.number = ap (λ (q : Cursor). q.number) here in
        let none : mid.kept ≡ c.kept = ap (λ (q : Cursor). q.kept) here in
        record {
          room = two.room ∙ one.room;
          next = λ left.
              let at : mid.index + m ≡ c.index + (a + m) = omega (arith, index) in
              let up_to : mid.done + length (take y (drop x bytes)) ≡ c.done + length (take (x + y) bytes) = omega (arith, done, second, both) in
              rw (at, up_to) at (two.next (omega (arith, index, count)))
              ∙ ap (λ (q : Cursor). moved q (c.index + (a + m)) (c.done + length (take (x + y) bytes)) (refusal r.box_number r.box_place)) here;
          took = λ held d F footer stated body p zero g kept reads fits.
              let before : Reads body p (take x bytes) = rw (take-take x (x + y) bytes (omega arith)) at (read_first body p (take (x + y) bytes) reads x (omega (arith, both))) in
              let after-it : Reads body (p + x) (take y (drop x bytes)) = rw (take-drop x y bytes) (read-rest body p (take (x + y) bytes) reads x (omega (arith, both))) in
              let h = one.took held d F footer stated body p zero g kept before (omega (arith, first, both, fits)) in
              let h' = rw first at (h.going (number ∙ zero)) in
              let end : p + x + length (take y (drop x bytes)) ≡ p + length (take (x + y) bytes) = omega (arith, second, both) in
              rw end at (two.took held d F footer stated body (p + x) (number ∙ zero) h' (none ∙ kept) after-it (omega (arith, second, both, fits)));
        }
