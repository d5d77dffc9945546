-- `floats::F32Float::finite_at_most` meets its contract: the law of `Infinities.antt` at its format. Assumes nothing.
use mathlib.Core.Path.{◌≡◌, sym, ◌∙◌}
use mathlib.Core.Bool.{◌&&◌}
use lib.Ieee.{binary32, lt, le}
use Rattle.order.proofs.Infinities.{lower, finite-in-order}
use Rattle.floats.proofs.F32Float.finite_at_most.Goals as goal
use Rattle.floats.proofs.F32Float.finite_at_most.Goals.{then-self, else-self}

pub returns-then-self-other : goal.returns-then-self-other
returns-then-self-other c =
    let two : c.if-self.value ≡ (lt (lower binary32) c.args.self && le c.args.self c.args.other)
    = elim c.if-self.branch [ then-self w ↦ w.value-is ∙ rw w.if-self.true | else-self w ↦ w.value-is ∙ rw w.if-self.false ] in
    rw (sym two ∙ c.if-self-other.true) at (finite-in-order binary32 c.args.self c.args.other c.well_formed.0.1 c.well_formed.1.0.1)

pub returns-else-self-other : goal.returns-else-self-other
returns-else-self-other c =
    let two : c.if-self.value ≡ (lt (lower binary32) c.args.self && le c.args.self c.args.other)
    = elim c.if-self.branch [ then-self w ↦ w.value-is ∙ rw w.if-self.true | else-self w ↦ w.value-is ∙ rw w.if-self.false ] in
    c.if-self-other.false
    ∙ rw (sym two ∙ c.if-self-other.false) at (finite-in-order binary32 c.args.self c.args.other c.well_formed.0.1 c.well_formed.1.0.1)
