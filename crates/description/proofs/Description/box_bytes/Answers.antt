-- `Description::box_bytes` meets its contract. Assumes nothing.
use Rattle.std.proofs.Common.{sym, ap, ◌∙◌, ◌+◌, arith}
use Rattle.description.specs.Description.{side_start, bytes_of_box}
use Rattle.description.proofs.Sides.{start_first, start-next, start-most}
use Rattle.description.proofs.Description.box_bytes.Goals as goal

pub loop-i-init : goal.loop-i-init
loop-i-init c = sym (start_first _)

pub overflow_add-sum : goal.overflow_add-sum
overflow_add-sum c =
    let kinds = c.args.self.kinds in
    grind (arith, start-most kinds (c.loop-i.i + 1), start-next kinds c.loop-i.i)

pub loop-i-preserved : goal.loop-i-preserved
loop-i-preserved c = rw (c.loop-i.invariant, c.range_bytes-sum.ensures) (sym (start-next _ _))

pub returns : goal.returns
unfolding bytes_of_box
returns c = c.loop-i.invariant ∙ ap (side_start _) (omega (arith, c.sides_of-n.ensures))
