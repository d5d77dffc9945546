-- `opening::open` meets its contract: with 28 said after 1 the rules are this library's. Assumes nothing.
use mathlib.Core.Path.{◌∙◌}
use Rattle.description.proofs.Rules.{retired-agrees}
use Rattle.footer.specs.Fields.{tiles_of}
use Rattle.rtree.proofs.Rules.{same-opening}
use Rattle.opening.proofs.open.Goals as goal

pub returns : goal.returns
returns c =
    let a = c.args in
    let d = a.description in
    c.open_by.ensures
    ∙ rw (c.from.ensures, c.check_retired.ensures)
    (same-opening d a.file_size a.footer.now a.body.now (retired-agrees d (tiles_of d a.footer.now)))
