-- `converter::put_widened` meets its contract: two numbers, one after the other, fill the buffer. Assumes nothing.
use mathlib.Core.Path.{◌≡◌, ap, ◌∙◌}
use native.Mathlib.Omega.{arith}
use Rattle.order.specs.Little.{first_of_two, second_of_two}
use Rattle.ranges.specs.Ranges.{ends_at}
use Rattle.widened.specs.Widened.{widened_pattern, widened_side}
use Rattle.order.proofs.Stores.{pair-stored}
use Rattle.converter.proofs.put_widened.Goals as goal

pub returns : goal.returns
unfolding widened_side ends_at
returns c =
    let x = c.args in
    let low : c.widen.result ≡ widened_pattern (first_of_two x.bytes.now 0 4) = c.widen.ensures ∙ ap widened_pattern c.pair_at-ends.ensures.0 in
    let high : c.widen-2.result ≡ widened_pattern (second_of_two x.bytes.now 0 4) = c.widen-2.ensures ∙ ap widened_pattern c.pair_at-ends.ensures.1 in
    pair-stored x.out.now _ _ 8 c.widen.result c.widen-2.result (omega arith) c.put_u64.ensures c.put_u64-2.ensures ∙ rw (low, high)
