-- `converter::put_levels` meets its contract. The invariant: the buffer holds the first l levels, and both places are
-- where level l starts. Assumes nothing.
use Prim.Native.Nat.{◌<◌}
use mathlib.Core.Path.{◌≡◌, refl, ap, ◌∙◌}
use native.Mathlib.Omega.{arith}
use lib.ListN.{length}
use lib.Seq.{length-sets}
use Rattle.answers.specs.Runs.{over}
use Rattle.tree.specs.Shape.{levels}
use Rattle.footer.specs.Fields.{tiles_of}
use Rattle.rtree.specs.Body.{fanout_of}
use Rattle.widened.specs.Widened.{widened_at}
use Rattle.converter.proofs.Levels.{down_is, count-is, run-here, level-next, next_fits, from_next, at_next}
use Rattle.converter.proofs.put_levels.Goals as goal

pub loop-l-init : goal.loop-l-init
unfolding over
loop-l-init c = (omega arith, refl, refl, refl, refl)

pub put_level-requires : goal.put_level-requires
put_level-requires c =
    let l = c.loop-l in
    let x = c.args in
    let z = c.requires.filling in
    let h : l.l < levels (fanout_of x.body.now) (tiles_of x.description x.footer.now) = omega (arith, c.loop-l-test, c.requires.depth_value) in
    let count = c.u64_at-count.ensures ∙ count-is z l.l h l.from l.at l.invariant.1 l.invariant.2 in
    run-here z l.l h l.from l.at l.invariant.1 l.invariant.2 c.u64_at-count.result count l.out l.invariant.3

pub loop-l-preserved : goal.loop-l-preserved
loop-l-preserved c =
    let l = c.loop-l in
    let x = c.args in
    let z = c.requires.filling in
    let h : l.l < levels (fanout_of x.body.now) (tiles_of x.description x.footer.now) = omega (arith, c.loop-l-test, c.requires.depth_value) in
    let count = c.u64_at-count.ensures ∙ count-is z l.l h l.from l.at l.invariant.1 l.invariant.2 in (
      omega (arith, c.loop-l-test),
      from_next z l.l h l.from l.at l.invariant.1 l.invariant.2 c.u64_at-count.result count,
      at_next z l.l h l.from l.at l.invariant.1 l.invariant.2 c.u64_at-count.result count,
      ap length c.put_level.ensures ∙ simp length-sets l.invariant.3,
      level-next z l.l h l.from l.at l.invariant.1 l.invariant.2 x.out.now l.out _ c.u64_at-count.result count l.invariant.4 c.put_level.ensures,
    )

pub returns : goal.returns
returns c =
    let l = c.loop-l in
    let x = c.args in
    let all : l.l ≡ x.depth = omega (arith, c.loop-l-test, l.invariant.0) in
    l.invariant.4
    ∙ rw (all, c.requires.depth_value, down_is (fanout_of x.body.now) (tiles_of x.description x.footer.now) (widened_at x.description (tiles_of x.description x.footer.now) x.body.now))

pub overflow_mul-from : goal.overflow_mul-from
overflow_mul-from c =
    let l = c.loop-l in
    let x = c.args in
    let z = c.requires.filling in
    let h : l.l < levels (fanout_of x.body.now) (tiles_of x.description x.footer.now) = omega (arith, c.loop-l-test, c.requires.depth_value) in
    let count = c.u64_at-count.ensures ∙ count-is z l.l h l.from l.at l.invariant.1 l.invariant.2 in
    let f = next_fits z l.l h l.from l.at l.invariant.1 l.invariant.2 c.u64_at-count.result count in
    record { fits = omega (arith, f) }

pub overflow_add-from : goal.overflow_add-from
overflow_add-from c =
    let l = c.loop-l in
    let x = c.args in
    let z = c.requires.filling in
    let h : l.l < levels (fanout_of x.body.now) (tiles_of x.description x.footer.now) = omega (arith, c.loop-l-test, c.requires.depth_value) in
    let count = c.u64_at-count.ensures ∙ count-is z l.l h l.from l.at l.invariant.1 l.invariant.2 in
    let f = next_fits z l.l h l.from l.at l.invariant.1 l.invariant.2 c.u64_at-count.result count in
    record { fits = omega (arith, f) }

pub overflow_add-from-in-loop-l : goal.overflow_add-from-in-loop-l
overflow_add-from-in-loop-l c =
    let l = c.loop-l in
    let x = c.args in
    let z = c.requires.filling in
    let h : l.l < levels (fanout_of x.body.now) (tiles_of x.description x.footer.now) = omega (arith, c.loop-l-test, c.requires.depth_value) in
    let count = c.u64_at-count.ensures ∙ count-is z l.l h l.from l.at l.invariant.1 l.invariant.2 in
    let f = next_fits z l.l h l.from l.at l.invariant.1 l.invariant.2 c.u64_at-count.result count in
    record { fits = omega (arith, f) }

pub overflow_mul-at : goal.overflow_mul-at
overflow_mul-at c =
    let l = c.loop-l in
    let x = c.args in
    let z = c.requires.filling in
    let h : l.l < levels (fanout_of x.body.now) (tiles_of x.description x.footer.now) = omega (arith, c.loop-l-test, c.requires.depth_value) in
    let count = c.u64_at-count.ensures ∙ count-is z l.l h l.from l.at l.invariant.1 l.invariant.2 in
    let f = next_fits z l.l h l.from l.at l.invariant.1 l.invariant.2 c.u64_at-count.result count in
    record { fits = omega (arith, f) }

pub overflow_add-at : goal.overflow_add-at
overflow_add-at c =
    let l = c.loop-l in
    let x = c.args in
    let z = c.requires.filling in
    let h : l.l < levels (fanout_of x.body.now) (tiles_of x.description x.footer.now) = omega (arith, c.loop-l-test, c.requires.depth_value) in
    let count = c.u64_at-count.ensures ∙ count-is z l.l h l.from l.at l.invariant.1 l.invariant.2 in
    let f = next_fits z l.l h l.from l.at l.invariant.1 l.invariant.2 c.u64_at-count.result count in
    record { fits = omega (arith, f) }

pub overflow_add-at-in-loop-l : goal.overflow_add-at-in-loop-l
overflow_add-at-in-loop-l c =
    let l = c.loop-l in
    let x = c.args in
    let z = c.requires.filling in
    let h : l.l < levels (fanout_of x.body.now) (tiles_of x.description x.footer.now) = omega (arith, c.loop-l-test, c.requires.depth_value) in
    let count = c.u64_at-count.ensures ∙ count-is z l.l h l.from l.at l.invariant.1 l.invariant.2 in
    let f = next_fits z l.l h l.from l.at l.invariant.1 l.invariant.2 c.u64_at-count.result count in
    record { fits = omega (arith, f) }
