-- `c_open::cursor_of` meets its contract: place by place. Assumes nothing.
use mathlib.Core.Path.{refl}
use Rattle.c_open.specs.State.{cursor_of}
use Rattle.c_open.proofs.cursor_of.Goals as goal

pub returns : goal.returns
unfolding cursor_of
returns c = refl
