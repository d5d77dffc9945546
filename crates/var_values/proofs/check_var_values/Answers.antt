-- `var_values::check_var_values` meets its contract: the layout's refusal ends the check; where no start is above the
-- next one nothing is said, and else the first that breaks the rule is looked for. Assumes nothing.
use Rattle.std.proofs.Common.{sym, arith}
use Rattle.std.proofs.lemmas.Result.{err_from_is_err_and}
use Rattle.answers.specs.Told.{told}
use Rattle.answers.proofs.Told.{stops, ok-clear}
use Rattle.tile_metadata.proofs.Bodies.{laid}
use Rattle.var_values.specs.VarValues.{var_values_refusal}
use Rattle.var_values.proofs.VarValues.{starts-keep}
use Rattle.var_values.proofs.check_var_values.Goals as goal

pub returns-in_err-check_layout : goal.returns-in_err-check_layout
unfolding var_values_refusal
returns-in_err-check_layout c =
    let p = err_from_is_err_and c.from_residual.result c.from_residual.ensures.1 in
    rw (p.1, p.2) (stops c.check_layout.ensures _ c.in_err-check_layout.was)

pub starts_rise-requires : goal.starts_rise-requires
starts_rise-requires c =
    let known = laid 8 _ _ (ok-clear c.check_layout.ensures c.in_ok-check_layout.was) in
    omega arith

pub returns-then-starts_rise : goal.returns-then-starts_rise
unfolding told
returns-then-starts_rise c =
    let rise = c.starts_rise.ensures c.if-starts_rise.true in
    sym (starts-keep _ _ (ok-clear c.check_layout.ensures c.in_ok-check_layout.was) rise.0 rise.1)

pub first_break-requires : goal.first_break-requires
first_break-requires c = ok-clear c.check_layout.ensures c.in_ok-check_layout.was
