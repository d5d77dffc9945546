-- `replay::has_room` meets its contract: 113 bytes a line are always enough. Assumes nothing.
use native.Mathlib.Omega.{arith}
use Rattle.replay.proofs.Room.{ample}
use Rattle.replay.proofs.has_room.Goals as goal

pub returns-then-count_lines-room : goal.returns-then-count_lines-room
returns-then-count_lines-room c =
    let x = c.args in
    ample x.description x.tiles x.body.now x.log.now (omega arith) (omega arith) x.room c.count_lines.ensures c.if-count_lines-room.true
