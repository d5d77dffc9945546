-- `rows::is_sound` meets its contract: no refusal comes of a sound range alone. Assumes nothing.
use Rattle.std.proofs.Common.{◌∙◌, ap, refl}
use Rattle.rows.specs.Code.Row.{is_sound}
use Rattle.rows.proofs.Within.{other_unsound}
use Rattle.rows.proofs.is_sound.Goals as goal

pub returns-in-Sound : goal.returns-in-Sound
returns-in-Sound c = rw (← c.of.ensures, c.in-Sound.is) refl

pub returns-in_default : goal.returns-in_default
returns-in_default c = other_unsound c.of.result c.in_default.not-Sound ∙ ap is_sound c.of.ensures
