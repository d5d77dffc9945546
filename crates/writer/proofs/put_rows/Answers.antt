-- `writer::put_rows` meets its contract. The invariant: the buffer holds the first k parents. Assumes nothing.
use mathlib.Core.Path.{refl, ap, ◌∙◌}
use native.Mathlib.Omega.{arith}
use lib.ListN.{length}
use lib.Seq.{length-sets}
use Rattle.answers.specs.Runs.{over}
use Rattle.writer.proofs.Rows.{row-some, row-there, parent-before, level-past, level-next}
use Rattle.writer.proofs.put_rows.Goals as goal

pub loop-k-init : goal.loop-k-init
unfolding over
loop-k-init c = (omega arith, refl, refl)

pub put_box-requires : goal.put_box-requires
put_box-requires c =
    let x = c.args in
    let p = c.requires.levels in
    let k = c.loop-k.k in
    let h = c.loop-k-test.true in
    let e = c.box_bytes-box_bytes.ensures in
    let past = level-past x.description x.out.now x.fanout x.start x.parents x.next x.count p k h c.loop-k.out c.loop-k.invariant.2 in record {
      box_bytes_value = e;
      row = rw (e, c.row_length-len.ensures) (record {
        some = omega (arith, row-some p k h, p.least);
        there = omega (arith, row-there p k h, c.loop-k.invariant.1);
        before = parent-before p k h;
      });
      no_nan = rw (past, c.row_length-len.ensures) (λ j m b from to. c.requires.no_nan j m b (omega arith) (omega (arith, row-some p k h)));
    }

pub loop-k-preserved : goal.loop-k-preserved
loop-k-preserved c =
    let x = c.args in (
      omega (arith, c.loop-k-test),
      ap length c.put_box.ensures ∙ simp length-sets c.loop-k.invariant.1,
      level-next x.description x.out.now x.fanout x.start x.parents x.next x.count c.requires.levels
          c.loop-k.k c.loop-k-test.true c.loop-k.out c.put_box.new.out c.loop-k.invariant.2
          (rw (c.box_bytes-box_bytes.ensures, c.row_length-len.ensures) at c.put_box.ensures),
    )

pub overflow_mul-first : goal.overflow_mul-first
overflow_mul-first c = record { fits = omega (arith, row-some c.requires.levels _ c.loop-k-test.true, c.ranges.count.fits) }
