-- `leaves::check_sizes` meets its contract: it goes through the definition's checks in their order. Assumes nothing.
use Rattle.std.proofs.Common.{sym, ◌∙◌}
use Rattle.answers.specs.Told.{number_of}
use Rattle.answers.proofs.Told.{stops, passes, ends, exits}
use Rattle.written.specs.Writing.{sizes_refusal_by}
use Rattle.leaves.proofs.check_sizes.Goals as goal

pub returns-in_err-check : goal.returns-in_err-check
unfolding sizes_refusal_by
returns-in_err-check c = exits _ _ c.from_residual.ensures.1 (stops c.check.ensures _ c.in_err-check.was)

pub returns-in_err-when : goal.returns-in_err-when
unfolding sizes_refusal_by number_of
returns-in_err-when c =
    let tiles = rw c.tiles_outside.ensures at c.when.ensures in
    exits _ _ c.from_residual-in_err-when.ensures.1 (stops tiles _ c.in_err-when.was ∙ sym (passes c.check.ensures _ c.in_ok-check.was))

pub returns : goal.returns
unfolding sizes_refusal_by number_of
returns c =
    let tiles = rw c.tiles_outside.ensures at c.when.ensures in
    let fanout = rw c.fanout_outside.ensures at c.when-2.ensures in
    fanout ∙ sym (passes c.check.ensures _ c.in_ok-check.was ∙ passes tiles _ c.in_ok-when.was ∙ ends _ _ fanout)
