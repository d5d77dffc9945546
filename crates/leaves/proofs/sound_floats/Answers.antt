-- `leaves::sound_floats` meets its contract: both ends are finite, so they have values, which are compared. Assumes nothing.
use Rattle.std.proofs.Common.{sym, ◌∙◌}
use Rattle.order.proofs.Read.{finite-parts}
use Rattle.leaves.proofs.sound_floats.Goals as goal

pub returns : goal.returns
returns g c t =
    let f = g.F.Float.format in
    let low = finite-parts f _ c.finite_pattern.ensures c.if-not-finite_pattern.false in
    let high = finite-parts f _ c.finite_pattern-2.ensures c.if-not-finite_pattern-2.false in
    record {
      low_number = low.0;
      low_finite = low.1;
      high_number = high.0;
      high_finite = high.1;
      ordered = rw (c.of.ensures, c.of-2.ensures) at (sym c.at_most.ensures ∙ t);
    }
