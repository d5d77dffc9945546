-- `rtree::check_counts` meets its contract. Assumes nothing.
use Prim.Native.Nat.{◌-◌}
use mathlib.Core.Path.{◌≡◌, sym, ◌∙◌}
use native.Mathlib.Omega.{arith}
use Rattle.answers.specs.Refusals.{none}
use Rattle.answers.specs.Checks.{otherwise}
use Rattle.answers.specs.Told.{told, number_of}
use Rattle.answers.proofs.Runs.{over-start}
use Rattle.answers.proofs.Checks.{none_left}
use Rattle.rtree.proofs.Left.{left, past-told, stop-told}
use Rattle.rtree.specs.Code.Shaped.{table_count_refusal, table_refusal}
use Rattle.rtree.proofs.check_counts.Goals as goal

pub loop-i-init : goal.loop-i-init
unfolding table_refusal
loop-i-init c = sym (over-start otherwise none _ _)

pub returns-in_err-when : goal.returns-in_err-when
unfolding number_of
returns-in_err-when c =
    let said : ((let x = c.args in
    told c.when.result ≡ table_count_refusal x.body.now x.table.now (x.levels - 1 - c.loop-i.i)))
    = rw (c.u64_at.ensures, c.count_in-count.ensures, c.place_in-place.ensures) at c.when.ensures in
    left c.from_residual.result _ c.from_residual.ensures.1 ∙ stop-told _ _ _ _ c.loop-i-test.true said c.in_err-when.was ∙ c.loop-i.invariant

pub loop-i-preserved : goal.loop-i-preserved
unfolding number_of
loop-i-preserved c =
    let said : ((let x = c.args in
    told c.when.result ≡ table_count_refusal x.body.now x.table.now (x.levels - 1 - c.loop-i.i)))
    = rw (c.u64_at.ensures, c.count_in-count.ensures, c.place_in-place.ensures) at c.when.ensures in
    sym (past-told _ _ _ _ c.loop-i-test.true said c.in_ok-when.was) ∙ c.loop-i.invariant

pub returns : goal.returns
unfolding told
returns c = sym (none_left _ _ _ (omega arith)) ∙ c.loop-i.invariant
