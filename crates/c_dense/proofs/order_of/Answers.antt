-- `c_dense::order_of` meets its contract: 1, or any other number. Assumes nothing.
use borrow.Author.Tests.{eq-eqb, ne_eqb}
use Rattle.c_dense.specs.Lent.{order_of}
use Rattle.c_dense.proofs.order_of.Goals as goal

pub returns-then-order-eq1 : goal.returns-then-order-eq1
unfolding order_of
returns-then-order-eq1 c = rw (eq-eqb _ 1 c.if-order-eq1.true)

pub returns-else-order-eq1 : goal.returns-else-order-eq1
unfolding order_of
returns-else-order-eq1 c = rw (ne_eqb _ 1 c.if-order-eq1.false)
