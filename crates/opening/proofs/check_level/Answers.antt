-- `opening::check_level` meets its contract, row by row.
-- Assumes nothing.
use mathlib.Core.Path.{◌≡◌, refl, sym, ◌∙◌}
use Prim.Native.Nat.{ℕ}
use native.Mathlib.Omega.{arith}
use Rattle.answers.specs.Refusals.{none}
use Rattle.answers.specs.Checks.{otherwise}
use Rattle.answers.specs.declared.Refusal.{Refusal}
use Rattle.answers.proofs.Runs.{over-start}
use Rattle.answers.proofs.Checks.{none_left}
use Rattle.answers.specs.Told.{told, number_of}
use Rattle.rtree.proofs.Left.{left, past-told, stop-told}
use Rattle.tree.proofs.Table.{as_read}
use Rattle.opening.specs.Code.Stored.{rows_refusal, table_refusal, Rows}
use Rattle.opening.proofs.Rows.{first_fits, children-there, children-said}
use Rattle.opening.proofs.check_level.Goals as goal
use Rattle.opening.proofs.check_level.Goals.{After-count_in-count}

pub loop-k-init : goal.loop-k-init
unfolding rows_refusal
loop-k-init c = sym (over-start otherwise none _ _)

-- the two levels, by the numbers that the table has
module _ (c : After-count_in-count) where
  rows-here : (let x = c.args in
      Rows x.description x.body.now x.box_bytes x.fanout c.place_in-start.result
      c.count_in-parents.result c.place_in-next.result c.count_in-count.result)
  rows-here =
      let x = c.args in
      as_read (λ s p n k. Rows x.description x.body.now x.box_bytes x.fanout s p n k)
      (sym c.place_in-start.ensures) (sym c.count_in-parents.ensures) (sym c.place_in-next.ensures) (sym c.count_in-count.ensures)
      c.requires.rows

  all-rows : (let x = c.args in
      rows_refusal x.description x.body.now x.fanout c.place_in-start.result
      c.count_in-parents.result c.place_in-next.result c.count_in-count.result
      ≡ table_refusal x.description x.body.now x.table.now x.fanout x.above)
  all-rows =
      let x = c.args in
      let all : ℕ → ℕ → ℕ → ℕ → Refusal = rows_refusal x.description x.body.now x.fanout in
      as_read (λ s p n k. all c.place_in-start.result c.count_in-parents.result c.place_in-next.result c.count_in-count.result ≡ all s p n k)
      c.place_in-start.ensures c.count_in-parents.ensures c.place_in-next.ensures c.count_in-count.ensures refl

pub overflow_mul-first : goal.overflow_mul-first
overflow_mul-first c =
    let p = rows-here (goal.at.overflow_mul-first c).After-count_in-count in
    let fits = first_fits p c.loop-k.k c.loop-k-test.true in
    omega arith

pub check_row-requires : goal.check_row-requires
check_row-requires c =
    let p = rows-here (goal.at.check_row-requires c).After-count_in-count in
    children-there p c.loop-k.k c.loop-k-test.true c.row_length-len.ensures

pub returns-in_err-check_row : goal.returns-in_err-check_row
unfolding number_of
returns-in_err-check_row c =
    let t = (goal.at.returns-in_err-check_row c).After-count_in-count in
    let l = c.loop-k in
    let said = children-said (rows-here t) l.k c.loop-k-test.true c.row_length-len.ensures c.check_row.ensures in
    left _ _ c.from_residual.ensures.1 ∙ stop-told _ _ _ _ c.loop-k-test.true said c.in_err-check_row.was ∙ l.invariant ∙ all-rows t

pub loop-k-preserved : goal.loop-k-preserved
unfolding number_of
loop-k-preserved c =
    let t = (goal.at.loop-k-preserved c).After-count_in-count in
    let l = c.loop-k in
    let said = children-said (rows-here t) l.k c.loop-k-test.true c.row_length-len.ensures c.check_row.ensures in
    sym (past-told _ _ _ _ c.loop-k-test.true said c.in_ok-check_row.was) ∙ l.invariant

pub returns : goal.returns
unfolding told
returns c =
    sym (none_left _ _ _ (omega arith)) ∙ c.loop-k.invariant ∙ all-rows (goal.at.returns c).After-count_in-count
