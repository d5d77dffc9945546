-- The dense entry beside the sparse one: no footer is accepted by both, since each refuses the other's dense flag.
-- Assumes nothing.
use Prim.Native.Nat.{ℕ}
use mathlib.Core.Path.{◌≡◌}
use mathlib.Core.List.{List}
use native.Mathlib.Omega.{arith}
use lib.Dec.{ltb, eqb}
use lib.ListN.{get_or}
use borrow.Author.Tests.{eqb-false, ltb-false}
use Rattle.answers.specs.Refusals as refusals
use Rattle.answers.proofs.Checks.{check-clear}
use Rattle.description.specs.declared.Description.{Description}
use Rattle.footer.specs.Fields.{no_flag, flag_is, start}
use Rattle.footer.specs.Checks.{dense_entry, footer_refusal, dense_footer_refusal}
use Rattle.footer.proofs.Passed.{passed, passed-by}

pub apart : (d : Description) (F : ℕ) (footer : List ℕ) → (footer_refusal d F footer).number ≡ 0
    → (dense_footer_refusal d F footer).number ≡ 0 → ⊥
unfolding no_flag flag_is
apart d F footer p q =
    let a = passed d F footer p in
    let b = passed-by (dense_entry d) d F footer q in
    let at = start d footer "dense" in
    let x = get_or footer at 0 in
    let flag = ltb-false 1 x (check-clear (ltb 1 x) refusals.flag at (omega arith) a.dense) in
    let sparse = eqb-false x 1 (check-clear (eqb x 1) refusals.dense at (omega arith) a.not_flag) in
    let dense = eqb-false x 0 (check-clear (eqb x 0) refusals.dense at (omega arith) b.not_flag) in
    omega (arith, flag, sparse, dense)
