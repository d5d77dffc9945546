-- `replay::replay` meets its contract. Assumes nothing.
use mathlib.Core.Path.{sym, ◌∙◌}
use native.Mathlib.Omega.{arith}
use Rattle.replay.proofs.Answered.{refused, accepted}
use Rattle.replay.proofs.replay.Goals as goal

pub returns-then-not-has_room : goal.returns-then-not-has_room
returns-then-not-has_room c =
    let x = c.args in
    let p = refused x.description x.tiles x.body.now x.log.now x.out.now (omega arith) (omega arith) (sym c.has_room.ensures ∙ c.if-not-has_room.true) in
    rw c.at.ensures (record { answer = p.0; buffer = p.1.0; room = p.1.1.0; records = p.1.1.1 })

pub returns : goal.returns
returns c =
    let x = c.args in
    let p = accepted x.description x.tiles x.body.now x.log.now x.out.now (sym c.has_room.ensures ∙ c.if-not-has_room.false) c.write-length.ensures in
    record { answer = p.0; buffer = p.1.0; room = p.1.1.0; records = p.1.1.1 }
