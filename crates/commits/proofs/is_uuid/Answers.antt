-- `commits::is_uuid` meets its contract. Assumes nothing.
use mathlib.Core.Path.{sym, ◌∙◌}
use native.Mathlib.Omega.{arith}
use Rattle.commits.specs.Records.{is_uuid_byte}
use Rattle.commits.proofs.Read.{uuid-short, uuid-long, uuid-is, every-next, every-stop, every-end}
use Rattle.commits.proofs.is_uuid.Goals as goal

pub returns-then-size-lt1 : goal.returns-then-size-lt1
returns-then-size-lt1 c = uuid-short c.args.text.now (omega arith)

pub returns-then-size-gt-MOST_UUID : goal.returns-then-size-gt-MOST_UUID
returns-then-size-gt-MOST_UUID c = uuid-long c.args.text.now (omega arith)

pub loop-b-init : goal.loop-b-init
loop-b-init c = uuid-is c.args.text.now (omega arith) (omega arith)

pub returns-then-not-is_uuid_byte : goal.returns-then-not-is_uuid_byte
returns-then-not-is_uuid_byte c =
    let x = c.args.text.now in
    sym (c.loop-b.invariant ∙ every-stop is_uuid_byte x c.loop-b.b-index (omega arith) (sym c.is_uuid_byte.ensures ∙ c.if-not-is_uuid_byte.true))

pub loop-b-preserved : goal.loop-b-preserved
loop-b-preserved c =
    let x = c.args.text.now in
    c.loop-b.invariant ∙ every-next is_uuid_byte x c.loop-b.b-index (omega arith) (sym c.is_uuid_byte.ensures ∙ c.if-not-is_uuid_byte.false)

pub returns : goal.returns
returns c =
    let x = c.args.text.now in
    sym (c.loop-b.invariant ∙ every-end is_uuid_byte x c.loop-b.b-index (omega arith))
