-- `rtree::check_shape` meets its contract: its checks, joined, are those of the rules (`shaped`), and whatever the
-- numbers are its callees get a small shape (`small`). Assumes nothing.
use mathlib.Core.Path.{◌≡◌, ap, ◌∙◌}
use Rattle.answers.specs.declared.Refusal.{Refusal}
use Rattle.description.specs.Description.{bytes_of_box}
use Rattle.tree.specs.Shape.{shape_of}
use Rattle.rtree.specs.Body.{fanout_of}
use Rattle.rtree.specs.Code.Shaped.{shaped_refusal}
use Rattle.rtree.proofs.Passed.{Small, small, shaped}
use Rattle.rtree.proofs.check_shape.Goals as goal

pub check_by-requires : goal.check_by-requires
check_by-requires c =
    let shape : ((let x = c.args in
    c.shape_of-shape.result ≡ shape_of (fanout_of x.body.now) x.tiles (bytes_of_box x.description)))
    = rw (c.u32_at-fanout.ensures, c.box_bytes-box_bytes.ensures) at c.shape_of-shape.ensures in
    let fits : Small c.shape_of-shape.result
    = rw shape (small _ _ _) in
    fits.counted

pub returns : goal.returns
returns c =
    let shape : ((let x = c.args in
    c.shape_of-shape.result ≡ shape_of (fanout_of x.body.now) x.tiles (bytes_of_box x.description)))
    = rw (c.u32_at-fanout.ensures, c.box_bytes-box_bytes.ensures) at c.shape_of-shape.ensures in
    let told : (let x = c.args in
    c.from-told.result ≡ shaped_refusal x.description x.tiles x.body.now)
    =
    let x = c.args in
    shaped x.description x.tiles x.body.now
    (c.from-told.ensures ∙ rw (shape, c.u32_at-fanout.ensures) at c.check_by.ensures) in
    record {
      number = ap (λ (r : Refusal). r.number) told;
      place = ap (λ (r : Refusal). r.place) told;
      fanout = c.u32_at-fanout.ensures;
      shape = shape;
    }
