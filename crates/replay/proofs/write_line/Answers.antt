-- `replay::write_line` meets its contract: piece by piece. Assumes nothing.
use Prim.Native.Nat.{◌+◌}
use Rattle.text.proofs.Writing.{wrote}
use Rattle.replay.proofs.Writing.{bad-wrote, now-room, good-wrote}
use Rattle.replay.proofs.write_line.Goals as goal

pub returns-in-None : goal.returns-in-None
returns-in-None c =
    let x = c.args in
    rw c.in-None.is (bad-wrote x.i x.out.now x.at (wrote 0 _ x.at _ c.write_field.ensures) (wrote 0 _ (x.at + c.write_field.result) _ c.write.ensures))

pub write_pair-requires : goal.write_pair-requires
write_pair-requires c =
    let x = c.args in
    now-room x.i x.out.now x.at (wrote 0 _ x.at _ c.write_field.ensures) c.in-Some.compared (rw c.in-Some.is at c.requires) c.agrees.ensures
    c.write_verdict-second.ensures c.write_pair-third.ensures

pub returns-in-Some : goal.returns-in-Some
returns-in-Some c =
    let x = c.args in
    rw c.in-Some.is (good-wrote x.i x.out.now x.at (wrote 0 _ x.at _ c.write_field.ensures) c.in-Some.compared (rw c.in-Some.is at c.requires) c.agrees.ensures
    c.write_verdict-second.ensures c.write_pair-third.ensures c.write_pair.ensures)
