-- `query::look_at` meets its contract: the part of the body from the place on has the box's bytes. Assumes nothing.
use Rattle.std.proofs.Common.{◌≡◌, ◌+◌, ◌-◌, refl, ◌∙◌, arith}
use Rattle.query.proofs.look_at.Goals as goal

pub returns : goal.returns
returns c =
    let x = c.args in
    let b = x.plan.now.box_bytes in
    let size : x.place + b - x.place ≡ b = omega arith in
    record { look = (c.test_box-tested.ensures.0 ∙ rw size, refl); read = c.test_box-tested.ensures.1 ∙ rw size }
