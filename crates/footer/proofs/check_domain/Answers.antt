-- `footer::check_domain` meets its contract: the ranges of the part, with their places moved by the part's start. Assumes nothing.
use Rattle.std.proofs.Common.{◌≡◌, ◌-◌, arith, rules}
use Rattle.answers.proofs.Told.{moves}
use Rattle.description.specs.Description.{bytes_of_box, sides_of}
use Rattle.boxes.proofs.Moving.{ranges-told}
use Rattle.footer.proofs.check_domain.Goals as goal

pub returns : goal.returns
unfolding bytes_of_box
returns c =
    let a = c.args in
    let d = a.description in
    let e : a.to - a.from ≡ bytes_of_box d = omega (arith, c.requires) in
    ranges-told d.kinds (sides_of d.dimensions) _ a.from (rw e at c.check_ranges.ensures) (moves _ _ a.from _ c.map_err.ensures.cases (λ e y p. search rules))
    (omega (arith, c.requires, c.well_formed))
