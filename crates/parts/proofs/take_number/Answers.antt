-- `parts::take_number` meets its contract: it is what one of the two takes. Assumes nothing.
use native.Mathlib.Omega.{arith}
use Rattle.parts.proofs.take_number.Goals as goal

pub take_front-requires : goal.take_front-requires
take_front-requires c = record {
  box_bytes_value = c.requires.box_bytes_value;
  bytes_len = c.requires.bytes_len;
  fanout_value = c.if-cursor-eq0.true;
}

pub take_count-requires : goal.take_count-requires
take_count-requires c = record {
  box_bytes_value = c.requires.box_bytes_value;
  in_range = c.requires.in_range;
  bytes_len = c.requires.bytes_len;
  counted_value = c.requires.counted_value;
  fanout_nonzero = omega arith;
}

pub returns-then-cursor-eq0 : goal.returns-then-cursor-eq0
returns-then-cursor-eq0 c = c.take_front.ensures

pub returns : goal.returns
returns c = c.take_count.ensures
