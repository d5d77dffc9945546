-- `query::test_box` meets its contract. The loop's invariant: the place is where dimension i starts; the dimensions before i met, so the box meets where those
-- from i on do; and what was read, with what would be read of those, is what the definition says.
-- Assumes nothing.
use mathlib.Core.Path.{◌≡◌, refl, sym, ◌∙◌}
use mathlib.Core.Bool.{true, ◌&&◌}
use Prim.Native.Nat.{◌+◌, ◌≤◌}
use native.Mathlib.Omega.{arith}
use lib.ListN.{length}
use borrow.Author.Tests.{not-true, not-false}
use Rattle.answers.proofs.Runs.{over-start}
use Rattle.description.specs.Kinds.{range_bytes}
use Rattle.description.specs.Description.{kind_at}
use Rattle.description.proofs.Sides.{start_first, start_up}
use Rattle.boxes.proofs.Boxes.{none_left, missed, passed}
use Rattle.boxes.proofs.ReadTo.{read-start, read_done, read-missed, read-passed}
use Rattle.boxes.proofs.Walking.{next_place, place-fits}
use Rattle.query.specs.Code.Walking.{meets_at, meets_carried, read_carried}
use Rattle.query.proofs.test_box.Goals as goal

pub loop-i-init : goal.loop-i-init
loop-i-init c =
    let a = c.args in
    let g = meets_at a.asked.now.kinds a.asked.now.ends a.bytes.now in
    (omega arith, sym (start_first a.asked.now.kinds), refl, omega arith, over-start ◌&&◌ true g a.asked.now.dimensions, read-start g a.asked.now.dimensions)

pub returns-then-asked-i : goal.returns-then-asked-i
unfolding meets_carried read_carried
returns-then-asked-i c =
    let v = c.loop-i.invariant in
    (v.2 ∙ none_left _ _ _ v.4 c.if-asked-i.true, read_done _ _ _ _ v.5 c.if-asked-i.true)

-- the bytes of dimension i are there, and the window's ends have no NaN
pub test_side-tested-requires : goal.test_side-tested-requires
test_side-tested-requires c =
    let v = c.loop-i.invariant in
    let there : c.loop-i.at + range_bytes (kind_at c.args.asked.now.kinds c.loop-i.i) ≤ length c.args.bytes.now =
    rw v.1 (omega (arith, c.requires.0, start_up c.args.asked.now.kinds c.loop-i.i c.args.asked.now.dimensions c.if-asked-i.false))
    in
    record {
      kind_in_bounds = (there, c.loop-i-test.true, omega (arith, v.3, c.loop-i-test));
      i_value = c.requires.1.numbers c.loop-i.i c.if-asked-i.false;
    }

pub returns-then-not-tested : goal.returns-then-not-tested
unfolding meets_carried read_carried
returns-then-not-tested c =
    let told : (
    let a = c.args in
    c.test_side-tested.result.meets ≡ meets_at a.asked.now.kinds a.asked.now.ends a.bytes.now c.loop-i.i)
    = c.test_side-tested.ensures.0 ∙ rw c.loop-i.invariant.1 in
    let v = c.loop-i.invariant in
    let miss = not-true c.test_side-tested.result.meets c.if-not-tested.true in
    (miss ∙ missed _ _ _ v.4 c.if-asked-i.false told miss, read-missed _ _ _ _ v.5 c.if-asked-i.false told c.test_side-tested.ensures.1 miss)

pub overflow_add-at : goal.overflow_add-at
overflow_add-at c =
    place-fits _ _ _ c.loop-i.invariant.1 _ c.range_bytes-at.ensures (omega (arith, c.loop-i-test))

pub loop-i-preserved : goal.loop-i-preserved
loop-i-preserved c =
    let told : (
    let a = c.args in
    c.test_side-tested.result.meets ≡ meets_at a.asked.now.kinds a.asked.now.ends a.bytes.now c.loop-i.i)
    = c.test_side-tested.ensures.0 ∙ rw c.loop-i.invariant.1 in
    let v = c.loop-i.invariant in
    let pass = not-false c.test_side-tested.result.meets c.if-not-tested.false in
    let one_more = c.test_side-tested.ensures.1 in (
      omega (arith, c.if-asked-i),
      next_place _ _ _ v.1 _ c.range_bytes-at.ensures,
      pass,
      omega (arith, one_more, v.3),
      passed _ _ _ v.4 c.if-asked-i.false told pass,
      read-passed _ _ _ _ v.5 c.if-asked-i.false told one_more pass,
    )

pub returns : goal.returns
unfolding meets_carried read_carried
returns c =
    let v = c.loop-i.invariant in
    let all : c.args.asked.now.dimensions ≤ c.loop-i.i = omega (arith, c.loop-i-test, c.requires.1.few) in
    (v.2 ∙ none_left _ _ _ v.4 all, read_done _ _ _ _ v.5 all)
