-- `replay::write_pair` meets its contract: number by number. Assumes nothing.
use Prim.Native.Nat.{◌+◌}
use Rattle.text.proofs.Writing.{wrote, wrote-append}
use Rattle.replay.proofs.write_pair.Goals as goal

pub returns : goal.returns
returns c =
    let x = c.args in
    wrote-append (wrote 0 _ x.at _ c.write_field.ensures) (wrote 0 _ (x.at + c.write_field.result) _ c.write_field-2.ensures)
