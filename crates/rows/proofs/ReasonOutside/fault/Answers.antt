-- The fault of a box with a reason: what its ranges told, or that it is outside, and either refuses. Assumes nothing.
use Rattle.std.proofs.Common.{refl, ap, ◌∙◌, arith}
use Rattle.answers.specs.Refusals.{refusal}
use Rattle.answers.specs.Told.{told, number_of}
use Rattle.answers.specs.declared.Refusal.{Refusal}
use Rattle.answers.proofs.Told.{refuses, some, halts}
use Rattle.rows.proofs.ReasonOutside.fault.Goals as goal

pub returns-in-Ok : goal.returns-in-Ok
unfolding told
returns-in-Ok c = rw (c.in-Ok.is, c.at.ensures) (refl, λ h. let l = some c.args.self in omega arith)

pub returns-in-Err : goal.returns-in-Err
unfolding told
returns-in-Err c =
    let e = c.in-Err.e in
    let same = halts {r = c.args.ranges} refl (refusal (number_of c.args.self) c.args.place) c.in-Err.is in
    (same, λ h. refuses e (ap (λ (x : Refusal). x.number) same ∙ h))
