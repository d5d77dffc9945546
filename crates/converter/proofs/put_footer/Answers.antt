-- `converter::put_footer` meets its contract: four pieces, one after the other. Assumes nothing.
use Prim.Native.Nat.{◌+◌, ◌-◌}
use mathlib.Core.Path.{◌≡◌, ap, ◌∙◌}
use native.Mathlib.Omega.{arith}
use lib.ListN.{length, take, drop, length-take, length-drop}
use lib.Seq.{sets, length-sets}
use Rattle.order.proofs.Stores.{bytes-stored, number-stored}
use Rattle.converter.proofs.Footers.{places, box-whole, footer-stored}
use Rattle.converter.proofs.put_footer.Goals as goal

pub put_box-requires-clause-bytes_len : goal.put_box-requires-clause-bytes_len
put_box-requires-clause-bytes_len c = box-whole c.requires

pub put_box-requires-clause-description_in_bounds : goal.put_box-requires-clause-description_in_bounds
put_box-requires-clause-description_in_bounds c =
    let x = c.args in
    let z = c.requires in
    let one : c.copy.new.out ≡ sets x.out.now 0 (take (x.domain - 0) (drop 0 x.footer.now)) =
    bytes-stored x.out.now _ 0 (take (x.domain - 0) (drop 0 x.footer.now))
    (simp (length-take, length-drop) (omega (arith, places z, z.room))) c.copy.ensures in
    let long-1 : length c.copy.new.out ≡ length x.out.now = ap length one ∙ simp length-sets in
    omega (arith, places z, z.room, z.new, long-1)

pub returns : goal.returns
returns c =
    let x = c.args in
    let z = c.requires in
    let one : c.copy.new.out ≡ sets x.out.now 0 (take (x.domain - 0) (drop 0 x.footer.now)) =
    bytes-stored x.out.now _ 0 (take (x.domain - 0) (drop 0 x.footer.now))
    (simp (length-take, length-drop) (omega (arith, places z, z.room))) c.copy.ensures in
    let long-1 : length c.copy.new.out ≡ length x.out.now = ap length one ∙ simp length-sets in
    let long-2 : length c.put_box.new.out ≡ length x.out.now = ap length c.put_box.ensures ∙ simp length-sets long-1 in
    let three : c.copy-2.new.out ≡ sets c.put_box.new.out (x.domain + x.wide)
    (take (length x.footer.now - 8 - (x.domain + x.old)) (drop (x.domain + x.old) x.footer.now)) =
    bytes-stored c.put_box.new.out _ (x.domain + x.wide)
    (take (length x.footer.now - 8 - (x.domain + x.old)) (drop (x.domain + x.old) x.footer.now))
    (simp (length-take, length-drop) (omega (arith, places z, z.room, long-2))) c.copy-2.ensures in
    let long-3 : length c.copy-2.new.out ≡ length x.out.now = ap length three ∙ simp length-sets long-2 in
    footer-stored z c.copy.new.out c.put_box.new.out c.copy-2.new.out _ one c.put_box.ensures three
    (number-stored _ _ _ 8 _ (omega (arith, places z, z.room, long-3)) c.put_u64.ensures)

pub overflow_add-tiles : goal.overflow_add-tiles
overflow_add-tiles c = record { fits = omega (arith, places c.requires) }

pub overflow_sub-end : goal.overflow_sub-end
overflow_sub-end c = omega (arith, places c.requires)

pub overflow_add-to : goal.overflow_add-to
overflow_add-to c = record { fits = omega (arith, places c.requires, c.requires.room) }

pub overflow_sub-field : goal.overflow_sub-field
overflow_sub-field c = omega (arith, places c.requires)

pub overflow_add-field : goal.overflow_add-field
overflow_add-field c = record { fits = omega (arith, places c.requires, c.requires.room) }

pub slice_bounds-copy-end : goal.slice_bounds-copy-end
slice_bounds-copy-end c = omega (arith, places c.requires)

pub slice_bounds-put_box-end : goal.slice_bounds-put_box-end
slice_bounds-put_box-end c = omega (arith, places c.requires)

pub slice_bounds-copy-count-2 : goal.slice_bounds-copy-count-2
slice_bounds-copy-count-2 c = omega (arith, places c.requires)

pub slice_bounds-copy-start-2 : goal.slice_bounds-copy-start-2
slice_bounds-copy-start-2 c = omega (arith, places c.requires)
