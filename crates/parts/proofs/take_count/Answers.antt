-- `parts::take_count` meets its contract: a wrong count is refused for good, and a right one is passed by.
-- Assumes nothing.
use mathlib.Core.Path.{◌≡◌, sym, ap, ◌∙◌}
use mathlib.Core.List.{List}
use Prim.Native.Nat.{ℕ}
use native.Mathlib.Omega.{arith}
use Rattle.answers.specs.Told.{number_of}
use Rattle.description.specs.declared.Description.{Description}
use Rattle.tree.specs.declared.Shape.{Shape}
use Rattle.tree.specs.Shape.{boxes, count_in}
use Rattle.footer.specs.Fields.{tiles_of}
use Rattle.rtree.specs.Body.{fanout_of}
use Rattle.parts_state.specs.Code.State.{Going}
use Rattle.parts.specs.Code.Cursor.{with_cursor}
use Rattle.parts.proofs.Front.{near-root, count-shaped, count-refused, count-passed}
use Rattle.parts.proofs.take_count.Goals.{After-count_in-count}
use Rattle.parts.proofs.take_count.Goals as goal

pub returns-then-level-gt24 : goal.returns-then-level-gt24
returns-then-level-gt24 c =
    λ held work size d F footer stated body p zero g kept r fits. absurd (omega (arith, near-root g c.requires.fanout_nonzero, c.if-level-gt24.true))

-- the count is the level's
count-is : (c : After-count_in-count) → (let x = c.args in
    (d : Description) (F : ℕ) (footer : List ℕ) (stated : ℕ) (body work held : List ℕ) (p : ℕ)
    → Going d F footer stated body work (with_cursor x.parts held x.cursor) p
    → c.count_in-count.result
    ≡ boxes (fanout_of body) (tiles_of d footer) x.cursor.level)
count-is c d F footer stated body work held p g =
    let e = ap (λ (q : Shape). count_in q.table c.args.cursor.level) c.shape_of-shape.ensures in
    count-shaped g c.requires.fanout_nonzero _ (c.count_in-count.ensures ∙ e ∙ rw c.requires.box_bytes_value)

pub returns-then-u64_at-count : goal.returns-then-u64_at-count
unfolding number_of
returns-then-u64_at-count c =
    let eight = c.requires.bytes_len in
    λ held work size d F footer stated body p zero g kept r fits.
    rw (c.refuse.ensures, c.at.ensures, eight)
    (count-refused g c.requires.fanout_nonzero zero c.requires.counted_value kept r eight (omega (arith, fits, eight)) c.u64_at.ensures
    (λ e. c.if-u64_at-count.true (e ∙ sym (count-is (goal.at.returns-then-u64_at-count c).After-count_in-count d F footer stated body work held p g))))

pub overflow_add-cursor : goal.overflow_add-cursor
overflow_add-cursor c =
    omega (arith, c.requires.in_range.room, c.requires.bytes_len)

pub returns : goal.returns
returns c =
    let eight = c.requires.bytes_len in
    λ held work size d F footer stated body p zero g kept r fits.
    rw (c.counted.ensures, count-is (goal.at.returns c).After-count_in-count d F footer stated body work held p g, eight)
    (count-passed g c.requires.fanout_nonzero zero c.requires.counted_value kept r eight (omega (arith, fits, eight)) c.u64_at.ensures
    (c.if-u64_at-count.false ∙ count-is (goal.at.returns c).After-count_in-count d F footer stated body work held p g))
