-- `commits::is_uuid` meets its contract. Assumes nothing.
use Rattle.std.proofs.Common.{◌≡◌, drop}
use Rattle.text.specs.Text.{every}
use Rattle.commits.specs.Records.{is_uuid_byte, is_uuid}
use Rattle.commits.proofs.is_uuid.Given as goal

abbrev pub invariant-loop-b : goal.invariant-loop-b
invariant-loop-b l = is_uuid l.text ≡ every is_uuid_byte (drop l.b-index l.text)
