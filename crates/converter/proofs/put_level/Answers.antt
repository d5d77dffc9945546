-- `converter::put_level` meets its contract: the count, and then the boxes. Assumes nothing.
use Prim.Native.Nat.{◌+◌}
use mathlib.Core.Path.{◌≡◌, ap, ◌∙◌}
use native.Mathlib.Omega.{arith}
use lib.ListN.{length}
use lib.Seq.{sets, length-sets}
use Rattle.order.specs.Little.{bytes_of}
use Rattle.order.proofs.Bytes.{bytes-length}
use Rattle.order.proofs.Stores.{number-stored, store_both}
use Rattle.converter.specs.Code.Levels.{boxes_from}
use Rattle.converter.proofs.Boxes.{run-as-long}
use Rattle.converter.proofs.put_level.Goals as goal

pub put_boxes-requires : goal.put_boxes-requires
put_boxes-requires c =
    let x = c.args in
    let counted : c.put_u64.new.out ≡ sets x.out.now x.at (bytes_of 8 x.count) = number-stored _ _ _ 8 _ (omega (arith, c.requires.room)) c.put_u64.ensures in
    run-as-long c.requires (ap length counted ∙ simp length-sets)

pub returns : goal.returns
returns c =
    let x = c.args in
    let counted : c.put_u64.new.out ≡ sets x.out.now x.at (bytes_of 8 x.count) = number-stored _ _ _ 8 _ (omega (arith, c.requires.room)) c.put_u64.ensures in
    c.put_boxes.ensures
    ∙ rw counted (store_both x.out.now x.at (bytes_of 8 x.count) 8 (boxes_from x.description x.body.now (x.from + 8) x.count) (bytes-length 8 x.count))
