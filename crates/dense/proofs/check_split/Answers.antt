-- `dense::check_split` meets its contract, in three cases: a float kind, an extent of 0, and the rest.
-- Assumes nothing.
use Rattle.std.proofs.Common.{◌≡◌, sym, ap, ◌∙◌}
use Rattle.answers.specs.Told.{told, number_of}
use Rattle.description.specs.Kinds.{is_float}
use Rattle.ranges.specs.Ranges.{kind_of}
use Rattle.dense.proofs.Told.{told-float, told-zero, told-rest}
use Rattle.dense.proofs.check_split.Goals as goal
use Rattle.dense.proofs.check_split.Goals.{then-is_float-via-then-is_float, then-is_float-via-else-is_float+then-extent-eq0}

pub returns-then-is_float : goal.returns-then-is_float
unfolding told number_of
returns-then-is_float c =
    let a = c.args in
    let float : c.is_float.result ≡ is_float (kind_of a.range) = c.is_float.ensures ∙ ap is_float c.kind.ensures in
    rw c.at.ensures
    (elim c.then-is_float.branch [
      | then-is_float-via-then-is_float w ↦ told-float a.range a.extent a.place (sym float ∙ w.if-is_float.true)
      | then-is_float-via-else-is_float+then-extent-eq0 w ↦ told-zero a.range a.extent a.place (sym float ∙ w.if-is_float.false) w.if-extent-eq0.true
    ])

pub returns : goal.returns
unfolding number_of
returns c =
    let a = c.args in
    let k = c.of.ensures in
    c.when.ensures
    ∙ told-rest a.range a.extent a.place (ap is_float (sym c.kind.ensures) ∙ sym c.is_float.ensures ∙ c.if-is_float.false)
    c.if-extent-eq0.false c.but_one.result (c.but_one.ensures ∙ rw (k.0, k.1))
