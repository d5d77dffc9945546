-- `c_open::tussockbell_parts_finish` meets its contract: the library's own finish, of the state that the array holds.
-- Assumes nothing.
use mathlib.Core.Path.{ap, ◌∙◌}
use Rattle.c_open.specs.Places.{opened_places}
use Rattle.c_open.proofs.Back.{made}
use Rattle.c_open.proofs.tussockbell_parts_finish.Goals as goal

pub returns : goal.returns
returns c =
    let held =
    made c.args.state.now c.description_in-d.ensures c.bytes_in-domain.ensures
    c.bytes_in-held.ensures c.cursor_of-c.ensures in
    λ d F footer stated got took. c.places.ensures ∙ ap opened_places (c.finish.ensures d F footer stated got (rw held took))
