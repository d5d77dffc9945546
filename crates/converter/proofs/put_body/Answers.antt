-- `converter::put_body` meets its contract: the fanout, the level number, and then the levels. Assumes nothing.
use mathlib.Core.Path.{◌≡◌, ap, ◌∙◌}
use native.Mathlib.Omega.{arith}
use lib.ListN.{length}
use lib.Seq.{sets, length-sets}
use Rattle.order.specs.Little.{bytes_of}
use Rattle.order.proofs.Stores.{number-stored}
use Rattle.tree.specs.Shape.{levels}
use Rattle.footer.specs.Fields.{tiles_of}
use Rattle.rtree.specs.Body.{fanout_of}
use Rattle.converter.proofs.Levels.{some_bytes, filling-as-long, body-stored}
use Rattle.converter.proofs.put_body.Goals as goal

pub put_levels-requires-clause-filling : goal.put_levels-requires-clause-filling
put_levels-requires-clause-filling c =
    let x = c.args in
    let z = c.requires in
    let one : c.put_u32.new.out ≡ sets x.out.now 0 (bytes_of 4 (fanout_of x.body.now)) =
    rw (← c.u32_at.ensures) (number-stored _ _ 0 4 _ (omega (arith, some_bytes z)) c.put_u32.ensures) in
    let long : length c.put_u32.new.out ≡ length x.out.now = ap length one ∙ simp length-sets in
    let two : c.put_u32-2.new.out ≡ sets c.put_u32.new.out 4 (bytes_of 4 (levels (fanout_of x.body.now) (tiles_of x.description x.footer.now))) =
    rw (← z.passed.leveled, ← c.u32_at-depth.ensures) (number-stored _ _ 4 4 _ (omega (arith, some_bytes z, long)) c.put_u32-2.ensures) in
    filling-as-long z (ap length two ∙ simp length-sets long) c.box_bytes-old.ensures (c.box_bytes-wide.ensures ∙ rw c.widened.ensures)

pub put_levels-requires-clause-depth_value : goal.put_levels-requires-clause-depth_value
put_levels-requires-clause-depth_value c = c.u32_at-depth.ensures ∙ c.requires.passed.leveled

pub returns : goal.returns
returns c =
    let x = c.args in
    let z = c.requires in
    let one : c.put_u32.new.out ≡ sets x.out.now 0 (bytes_of 4 (fanout_of x.body.now)) =
    rw (← c.u32_at.ensures) (number-stored _ _ 0 4 _ (omega (arith, some_bytes z)) c.put_u32.ensures) in
    let long : length c.put_u32.new.out ≡ length x.out.now = ap length one ∙ simp length-sets in
    let two : c.put_u32-2.new.out ≡ sets c.put_u32.new.out 4 (bytes_of 4 (levels (fanout_of x.body.now) (tiles_of x.description x.footer.now))) =
    rw (← z.passed.leveled, ← c.u32_at-depth.ensures) (number-stored _ _ 4 4 _ (omega (arith, some_bytes z, long)) c.put_u32-2.ensures) in
    body-stored z c.put_u32.new.out c.put_u32-2.new.out _ one two c.put_levels.ensures
