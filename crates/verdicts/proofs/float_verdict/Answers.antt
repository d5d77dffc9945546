-- `verdicts::float_verdict` meets its contract: a sound range first, and then the others. Assumes nothing.
use Rattle.std.proofs.Common.{rules}
use Rattle.std.specs.Float.Ieee.{nan_bits}
use Rattle.std.proofs.Common.{leb}
use Rattle.order.specs.Key.{float_at_most, float_key, infinite}
use Rattle.verdicts.proofs.Judging.{sound-by, other-by}
use Rattle.verdicts.proofs.float_verdict.Goals as goal

pub returns-then-finite_at_most : goal.returns-then-finite_at_most
unfolding float_at_most
returns-then-finite_at_most g c =
    let a = g.F.Float.pattern c.args.low in
    let b = g.F.Float.pattern c.args.high in
    let f = g.F.Float.format in
    sound-by c.args.range (nan_bits f a) (nan_bits f b) (leb (float_key f a) (float_key f b)) (infinite f a) (infinite f b)
    c.finite_at_most.ensures
    c.if-finite_at_most.true

pub returns : goal.returns
unfolding float_at_most
returns g c =
    let a = g.F.Float.pattern c.args.low in
    let b = g.F.Float.pattern c.args.high in
    let f = g.F.Float.format in
    other-by c.args.range (nan_bits f a) (nan_bits f b) (leb (float_key f a) (float_key f b)) (infinite f a) (infinite f b)
    c.at_most.ensures
    (search rules)
    (search rules)
    c.finite_at_most.ensures
    c.if-finite_at_most.false
    c.other_verdict.ensures
