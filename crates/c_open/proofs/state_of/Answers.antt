-- `c_open::state_of` meets its contract: place by place. Assumes nothing.
use Rattle.c_open.proofs.Back.{made}
use Rattle.c_open.proofs.state_of.Goals as goal

pub returns : goal.returns
returns c =
    made c.args.state.now c.description_in-d.ensures c.bytes_in-domain.ensures
    c.bytes_in-held.ensures c.cursor_of-c.ensures
