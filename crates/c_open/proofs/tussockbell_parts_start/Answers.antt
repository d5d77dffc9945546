-- `c_open::tussockbell_parts_start` meets its contract: the library's own start, and what is written is read back.
-- Assumes nothing.
use Rattle.c_open.proofs.Back.{written_back}
use Rattle.c_open.proofs.tussockbell_parts_start.Goals as goal

pub returns : goal.returns
returns c =
    let s = c.start-s in
    let k = c.kind_numbers-numbers in
    let first = c.put_bytes.ensures in
    let second = c.put_bytes-2.ensures in
    let back = written_back s.result k.result k.ensures.0 k.ensures.1 first.1 first.2 second.1 second.2
    c.put_numbers.ensures first.0 second.0 in
    rw (back, ← c.describe-d.ensures) s.ensures
