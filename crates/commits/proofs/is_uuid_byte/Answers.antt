-- `commits::is_uuid_byte` meets its contract. Assumes nothing.
use Rattle.std.proofs.Common.{◌∙◌}
use Rattle.commits.proofs.Read.{uuid_byte-is}
use Rattle.commits.proofs.is_uuid_byte.Goals as goal

pub returns-then-is_ascii_alphanumeric : goal.returns-then-is_ascii_alphanumeric
returns-then-is_ascii_alphanumeric c =
    c.if-is_ascii_alphanumeric.true ∙ (rw (← c.if-is_ascii_alphanumeric.ensures.value) at (uuid_byte-is c.args.b))

pub returns-else-is_ascii_alphanumeric : goal.returns-else-is_ascii_alphanumeric
returns-else-is_ascii_alphanumeric c = rw (← c.if-is_ascii_alphanumeric.ensures.value) at (uuid_byte-is c.args.b)
