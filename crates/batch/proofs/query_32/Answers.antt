-- `batch::query_32` meets its contract: the runs that it lends are of one length. Assumes nothing.
use Rattle.std.proofs.Common.{arith}
use Rattle.batch.proofs.Run.{answered-all}
use Rattle.batch.proofs.query_32.Goals as goal

pub returns : goal.returns
returns c =
    let x = c.args in
    answered-all x.description x.tiles x.body.now x.windows (omega arith) c.query_all.ensures
