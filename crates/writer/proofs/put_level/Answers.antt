-- `writer::put_level` meets its contract: the count, and then the parents. Assumes nothing.
use Prim.Native.Nat.{◌-◌}
use mathlib.Core.Path.{◌≡◌, ap, sym, ◌∙◌}
use native.Mathlib.Omega.{arith}
use lib.ListN.{length, drop}
use lib.Seq.{sets, length-sets}
use Rattle.order.specs.Little.{bytes_of}
use Rattle.description.specs.Description.{bytes_of_box}
use Rattle.tree.proofs.Table.{as_read}
use Rattle.writer.specs.Code.Rows.{level_of, NoNan, Levels}
use Rattle.order.proofs.Stores.{number-stored}
use Rattle.writer.proofs.Rows.{count_past, level-stored, levels-as-long}
use Rattle.writer.proofs.put_level.Goals as goal

pub put_rows-requires : goal.put_rows-requires
put_rows-requires c =
    let x = c.args in
    let l : Levels x.out.now (bytes_of_box x.description) x.fanout c.place_in-start.result c.count_in-parents.result c.place_in-next.result c.count_in-count.result =
    as_read (λ s p n k. Levels x.out.now (bytes_of_box x.description) x.fanout s p n k)
    (sym c.place_in-start.ensures) (sym c.count_in-parents.ensures) (sym c.place_in-next.ensures) (sym c.count_in-count.ensures) c.requires.levels in
    let z : NoNan x.description (drop c.place_in-next.result x.out.now) 0 c.count_in-count.result =
    rw (c.place_in-next.ensures, c.count_in-count.ensures) c.requires.no_nan in
    let counted : c.put_u64.new.out ≡ sets x.out.now (c.place_in-start.result - 8) (bytes_of 8 c.count_in-parents.result) =
    number-stored _ _ _ 8 _ (omega (arith, l.counted, l.before, l.there)) c.put_u64.ensures in
    let past = count_past x.description x.out.now x.fanout _ _ _ _ l c.put_u64.new.out counted in
    record { levels = levels-as-long (ap length counted ∙ simp length-sets) l; no_nan = rw past z }

pub returns : goal.returns
returns c =
    let x = c.args in
    let l : Levels x.out.now (bytes_of_box x.description) x.fanout c.place_in-start.result c.count_in-parents.result c.place_in-next.result c.count_in-count.result =
    as_read (λ s p n k. Levels x.out.now (bytes_of_box x.description) x.fanout s p n k)
    (sym c.place_in-start.ensures) (sym c.count_in-parents.ensures) (sym c.place_in-next.ensures) (sym c.count_in-count.ensures) c.requires.levels in
    let counted : c.put_u64.new.out ≡ sets x.out.now (c.place_in-start.result - 8) (bytes_of 8 c.count_in-parents.result) =
    number-stored _ _ _ 8 _ (omega (arith, l.counted, l.before, l.there)) c.put_u64.ensures in
    as_read (λ s p m k. c.put_rows.new.out ≡ sets x.out.now (s - 8) (level_of x.description x.fanout (drop m x.out.now) k p))
    c.place_in-start.ensures c.count_in-parents.ensures c.place_in-next.ensures c.count_in-count.ensures
    (level-stored x.description x.out.now x.fanout _ _ _ _ l _ _ counted c.put_rows.ensures)
