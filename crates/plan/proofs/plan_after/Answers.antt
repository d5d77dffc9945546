-- `plan::plan_after` meets its contract: a refusal leaves the output run as it was; otherwise the marks are those of
-- the run alone, and the scan's ranges are the plan's. Assumes nothing.
use Rattle.std.proofs.Common.{length, refl, sym, arith}
use Rattle.answers.specs.Told.{told}
use Rattle.answers.specs.Refusals.{none}
use Rattle.answers.proofs.Told.{told-ok, told-err, ok-clear}
use Rattle.plan.specs.Plan.{told_plan}
use Rattle.plan.proofs.Marks.{marks-alone, in-or-out}
use Rattle.plan.proofs.Answers.{room-enough, refused-told, scanned-plan}
use Rattle.plan.proofs.plan_after.Goals as goal

pub returns-in_err-check : goal.returns-in_err-check
unfolding told
returns-in_err-check c =
    let a = c.args in
    let r = refused-told (told a.list) a.tiles a.size a.body.now a.gap a.run.now (length a.work.now) a.out.now
    _ _ c.from_residual.ensures.1 (told-err c.check.ensures c.in_err-check.was) in
    record { answer = r.0; buffer = r.1 }

pub clear-requires : goal.clear-requires
clear-requires c =
    let a = c.args in
    omega (arith, c.eighth.ensures, room-enough (told a.list) a.tiles (length a.work.now) (ok-clear c.check.ensures c.in_ok-check.was))

pub mark-inside-requires : goal.mark-inside-requires
mark-inside-requires c =
    let a = c.args in
    omega (arith, room-enough (told a.list) a.tiles (length a.work.now) (ok-clear c.check.ensures c.in_ok-check.was))

pub overflow_sub-result : goal.overflow_sub-result
overflow_sub-result c =
    let a = c.args in
    omega (arith, c.mark-inside.ensures.inside, in-or-out a.tiles a.run.now)

pub returns : goal.returns
unfolding told_plan
returns c =
    let a = c.args in
    let alone = marks-alone a.tiles c.eighth.result a.run.now c.clear.new.marks c.mark-inside.new.marks
    (omega (arith, c.eighth.ensures)) c.clear.ensures c.mark-inside.ensures.marks in
    let r = scanned-plan (told a.list) a.tiles a.size a.body.now a.gap a.run.now (length a.work.now) a.out.now
    none (sym (told-ok c.check.ensures c.in_ok-check.was)) refl c.mark-inside.new.marks alone c.mark-inside.result
    c.mark-inside.ensures.inside c.scan-p.result c.close-written.result c.scan-p.new.out c.close-written.new.out
    c.scan-p.ensures c.close-written.ensures in
    record { answer = r.0; buffer = r.1 }
