-- `rows::between` meets its contract: what is in order and inside a finite range is sound. Assumes nothing.
use Rattle.rows.proofs.Held.{told-inside, told-apart}
use Rattle.rows.proofs.between.Goals as goal

pub returns-then-in_order : goal.returns-then-in_order
returns-then-in_order c =
    told-inside _ _ c.requires c.in_order.ensures c.inside.ensures c.if-in_order.true

pub returns-else-in_order : goal.returns-else-in_order
returns-else-in_order c = told-apart _ _ c.requires c.in_order.ensures c.if-in_order.false
