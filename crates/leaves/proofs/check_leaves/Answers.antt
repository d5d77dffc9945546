-- `leaves::check_leaves` meets its contract. Assumes nothing.
use Rattle.std.proofs.Common.{sym}
use Rattle.answers.specs.Told.{told}
use Rattle.leaves.proofs.check_leaves.Goals as goal

pub returns-then-all_sound : goal.returns-then-all_sound
unfolding told
returns-then-all_sound c = sym (c.all_sound.ensures c.if-all_sound.true)
