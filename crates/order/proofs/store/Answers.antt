-- `order::store` meets its contract: the bytes of the number take the place of as many. Assumes nothing.
use Rattle.std.proofs.Common.{◌≡◌, ◌∙◌, ◌+◌, ◌-◌, arith}
use Rattle.order.specs.Little.{bytes_of}
use Rattle.order.proofs.Bytes.{bytes-length}
use Rattle.order.proofs.Stores.{part-stored}
use Rattle.order.proofs.store.Goals as goal

pub returns : goal.returns
returns g c =
    let a = c.args in
    let m = g.W.Word.SIZE in
    let n = g.W.Word.number a.x in
    let bytes : c.copy_from_slice.new.self ≡ bytes_of m n = c.copy_from_slice.ensures.after ∙ rw c.SIZE-2.ensures c.to_le-bytes.ensures in
    rw bytes (part-stored a.out.now a.at (a.at + c.SIZE.result - a.at) (bytes_of m n) (omega (arith, bytes-length m n, c.SIZE.ensures)) (omega (arith, c.SIZE.ensures)))
