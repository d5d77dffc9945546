-- `rows::in_order` meets its contract: each kind's comparison is its order's. Assumes nothing.
use borrow.Author.Rules.{rules}
use Rattle.order.specs.Key.{float_at_most}
use Rattle.description.specs.Kinds.{key, is_nan, ordered, at_most}
use Rattle.ranges.specs.declared.Range.{Range}
use Rattle.ranges.specs.Ranges.{kind_of, ends_of}
use Rattle.ranges.proofs.Comparing.{when-known}
use Rattle.rows.proofs.in_order.Goals as goal

pub returns-in-I32 : goal.returns-in-I32
unfolding ends_of at_most is_nan key
returns-in-I32 c =
    when-known (λ (x : Range). at_most (ordered (kind_of x)) (ends_of x).low (ends_of x).high) c.in-I32.is
    (search rules)

pub returns-in-I64 : goal.returns-in-I64
unfolding ends_of at_most is_nan key
returns-in-I64 c =
    when-known (λ (x : Range). at_most (ordered (kind_of x)) (ends_of x).low (ends_of x).high) c.in-I64.is
    (search rules)

pub returns-in-F32 : goal.returns-in-F32
unfolding ends_of at_most is_nan key float_at_most
returns-in-F32 c =
    when-known (λ (x : Range). at_most (ordered (kind_of x)) (ends_of x).low (ends_of x).high) c.in-F32.is c.at_most-in-F32.ensures

pub returns-in-F64 : goal.returns-in-F64
unfolding ends_of at_most is_nan key float_at_most
returns-in-F64 c =
    when-known (λ (x : Range). at_most (ordered (kind_of x)) (ends_of x).low (ends_of x).high) c.in-F64.is c.at_most-in-F64.ensures

pub returns-in-U64 : goal.returns-in-U64
unfolding ends_of at_most is_nan key
returns-in-U64 c =
    when-known (λ (x : Range). at_most (ordered (kind_of x)) (ends_of x).low (ends_of x).high) c.in-U64.is c.at_most-in-U64.ensures
