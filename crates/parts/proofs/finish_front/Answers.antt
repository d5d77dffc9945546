-- `parts::finish_front` meets its contract: what the fanout shows, or 2 at the bytes that came. Assumes nothing.
use mathlib.Core.Path.{refl, sym, ◌∙◌}
use Rattle.answers.specs.Told.{told, number_of}
use Rattle.answers.proofs.Told.{refuses}
use Rattle.rtree.proofs.Passed.{box-bytes-most}
use Rattle.parts.proofs.Ends.{front-ends-refused, front-ends-short}
use Rattle.parts.proofs.finish_front.Goals as goal

pub check_front-requires : goal.check_front-requires
check_front-requires c = rw c.box_bytes-box_bytes.ensures (box-bytes-most c.args.parts.description)

pub returns-in-Err : goal.returns-in-Err
unfolding told
returns-in-Err c = λ d F footer stated body work blank size g.
    c.refused_in-in-Err.ensures
    ∙ rw (c.which_of.ensures, c.number-in-Err.ensures)
    (sym (front-ends-refused g blank size c.box_bytes-box_bytes.ensures c.u32_at-fanout.ensures c.in-Err.ensures (refuses c.in-Err.e)))

pub returns-in-Ok : goal.returns-in-Ok
unfolding told number_of
returns-in-Ok c = λ d F footer stated body work blank size g.
    c.refused_in.ensures
    ∙ rw c.number.ensures
    (sym (front-ends-short g blank size c.box_bytes-box_bytes.ensures c.u32_at-fanout.ensures c.in-Ok.ensures refl))
