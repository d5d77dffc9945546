-- `c_query::tussockbell_query_batch` meets its contract: what the windows come to once they are asked is all that it promises.
-- Assumes nothing.
use native.Mathlib.Omega.{arith}
use lib.ListN.{length}
use Rattle.c_arguments.specs.Described.{describe}
use Rattle.c_query.proofs.Lent.{width-most, lent-whole, promised}
use Rattle.c_query.proofs.tussockbell_query_batch.Goals as goal

pub check_lent-batch-requires : goal.check_lent-batch-requires
check_lent-batch-requires c =
    (rw c.window_bytes-width.ensures (width-most c.args.window_kinds.now), omega arith)

pub ask_all-requires : goal.ask_all-requires
ask_all-requires c =
    let a = c.args in
    let whole = rw (← c.check_lent-batch.ensures) at (lent-whole c.window_bytes-width.result (length a.windows.now) (length a.answers.now)) in
    (c.window_bytes-width.ensures, whole)

pub returns : goal.returns
returns c =
    let a = c.args in
    promised (describe a.kinds.now a.fields a.capacity) a.tiles a.tree.now a.window_kinds.now a.windows.now a.answers.now a.out.now
    c.describe-d.ensures c.window_bytes-width.ensures c.check_lent-batch.ensures c.ask_all.ensures.answers c.ask_all.ensures.buffer
