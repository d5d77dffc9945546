-- `batch::query_all` meets its contract: a window that is asked is one of the run, and has an answer; once all have been asked, what stands is what
-- the definition says, by `Run.antt`.
-- Assumes nothing.
use Rattle.std.proofs.Common.{◌≡◌, ℕ, ◌<◌, subst, arith}
use Rattle.batch.specs.Batch.{batch_of}
use Rattle.batch.specs.declared.Batch.{Batch}
use Rattle.batch.proofs.Run.{in-run, batched}
use Rattle.batch.proofs.query_all.Goals as goal

asked_in : {r : Batch} {windows answers i : ℕ} → r ≡ batch_of windows answers → i < r.windows → (i < windows) × (i < answers)
asked_in {r} {windows} {answers} {i} e l = in-run windows answers i (subst (λ (z : Batch). i < z.windows) e l)

pub offset_bounds-windows-i : goal.offset_bounds-windows-i
offset_bounds-windows-i c =
    let there = asked_in c.check_runs-batch.ensures c.loop-i-test.true in
    omega (arith, there.0)

pub bounds-windows-i : goal.bounds-windows-i
bounds-windows-i c = (asked_in c.check_runs-batch.ensures c.loop-i-test.true).0

pub offset_bounds-answers-i : goal.offset_bounds-answers-i
offset_bounds-answers-i c =
    let there = asked_in c.check_runs-batch.ensures c.loop-i-test.true in
    omega (arith, there.1)

pub bounds-answers-i : goal.bounds-answers-i
bounds-answers-i c =
    let there = asked_in c.check_runs-batch.ensures c.loop-i-test.true in
    omega (arith, there.1)

pub returns : goal.returns
returns c =
    let x = c.args in
    let all : c.loop-i.i ≡ c.check_runs-batch.result.windows = omega (arith, c.loop-i-test) in
    rw (c.loop-i.invariant.answers, c.loop-i.invariant.buffer, all)
    (batched x.description x.tiles x.body.now x.windows.now x.answers.now x.out.now c.check_runs-batch.ensures)
