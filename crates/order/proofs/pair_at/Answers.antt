-- `order::pair_at` meets its contract: the laws of `Pairs.antt` at its number of bytes. Assumes nothing.
use Rattle.order.proofs.Pairs.{there_by, not_there_by}
use Rattle.order.proofs.pair_at.Goals as goal

pub returns-then-two_fit : goal.returns-then-two_fit
returns-then-two_fit g c =
    let a = c.args in
    let m = g.W.Word.SIZE in
    there_by a.s.now a.at m c.two_fit.ensures c.if-two_fit.true c.there.ensures (rw c.SIZE.ensures at c.there-then-two_fit.ensures)

pub returns : goal.returns
returns g c =
    let a = c.args in
    not_there_by a.s.now a.at g.W.Word.SIZE c.two_fit.ensures c.if-two_fit.false c.lowest.ensures c.lowest-2.ensures
