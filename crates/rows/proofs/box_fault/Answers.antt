-- `rows::box_fault` meets its contract: what is told of the ranges, at places moved by the box's start. Assumes nothing.
use Rattle.std.proofs.Common.{rules, ◌≡◌}
use Rattle.answers.specs.Told.{told}
use Rattle.answers.proofs.Told.{moves}
use Rattle.description.specs.Description.{sides_of}
use Rattle.boxes.specs.Boxes.{ranges_refusal}
use Rattle.boxes.proofs.Moving.{ranges-told}
use Rattle.rows.proofs.box_fault.Goals as goal

pub returns : goal.returns
returns g c =
    let a = c.args in
    let ranges = c.map_err-ranges in
    let there : told ranges.result ≡ ranges_refusal a.kinds (sides_of a.dimensions) a.bytes.now a.start
    = ranges-told a.kinds (sides_of a.dimensions) a.bytes.now a.start c.check_ranges.ensures
    (moves c.check_ranges.result ranges.result a.start _ ranges.ensures.cases (λ e y p. search rules)) c.requires in
    rw (← there) c.fault.ensures
