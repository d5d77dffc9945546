-- `c_open::put_state` meets its contract: what is written list after list is read back. Assumes nothing.
use Rattle.c_open.proofs.Back.{written_back}
use Rattle.c_open.proofs.put_state.Goals as goal

pub returns : goal.returns
returns c =
    let s = c.args.s in
    let k = c.kind_numbers-kinds in
    let first = c.put_bytes.ensures in
    let second = c.put_bytes-2.ensures in
    written_back s k.result k.ensures.0 k.ensures.1 first.1 first.2 second.1 second.2
    c.put_numbers.ensures first.0 second.0
