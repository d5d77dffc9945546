-- `Verdict::of` meets its contract: what its tests find at each kind is what the kind's law asks. Assumes nothing.
use mathlib.Core.Path.{refl}
use borrow.Author.Rules.{rules}
use lib.Ieee.{binary32, binary64, to_bits}
use mir.Syntax.{w32, w64}
use mir.Val.{of_z}
use Rattle.order.specs.Key.{float_at_most}
use Rattle.description.specs.declared.Kind.TheVariants.{Int32, Int64, Float32, Float64, Uint64}
use Rattle.description.specs.Kinds.{key, is_nan, is_infinite, at_most}
use Rattle.ranges.specs.Ranges.{ends_of}
use Rattle.ranges.proofs.Comparing.{when-known}
use Rattle.verdicts.specs.Verdicts.{verdict}
use Rattle.verdicts.proofs.Judging.{verdict-by}
use Rattle.verdicts.proofs.Verdict.of.Goals as goal

pub returns-in-I32 : goal.returns-in-I32
unfolding ends_of at_most is_nan is_infinite key
returns-in-I32 c =
    when-known (λ x. verdict (ends_of x) x) c.in-I32.is
    (verdict-by Int32 (of_z w32 c.in-I32.low) (of_z w32 c.in-I32.high) _ refl
    (search rules)
    refl
    refl
    c.finite_verdict.ensures)

pub returns-in-I64 : goal.returns-in-I64
unfolding ends_of at_most is_nan is_infinite key
returns-in-I64 c =
    when-known (λ x. verdict (ends_of x) x) c.in-I64.is
    (verdict-by Int64 (of_z w64 c.in-I64.low) (of_z w64 c.in-I64.high) _ refl
    (search rules)
    refl
    refl
    c.finite_verdict-in-I64.ensures)

pub returns-in-F32 : goal.returns-in-F32
unfolding ends_of at_most is_nan is_infinite key float_at_most
returns-in-F32 c =
    when-known (λ x. verdict (ends_of x) x) c.in-F32.is
    (verdict-by Float32 (to_bits binary32 c.in-F32.low) (to_bits binary32 c.in-F32.high) _ refl refl refl refl c.float_verdict.ensures)

pub returns-in-F64 : goal.returns-in-F64
unfolding ends_of at_most is_nan is_infinite key float_at_most
returns-in-F64 c =
    when-known (λ x. verdict (ends_of x) x) c.in-F64.is
    (verdict-by Float64 (to_bits binary64 c.in-F64.low) (to_bits binary64 c.in-F64.high) _ refl refl refl refl c.float_verdict-in-F64.ensures)

pub returns-in-U64 : goal.returns-in-U64
unfolding ends_of at_most is_nan is_infinite key
returns-in-U64 c =
    when-known (λ x. verdict (ends_of x) x) c.in-U64.is
    (verdict-by Uint64 c.in-U64.low c.in-U64.high _ refl (search rules) refl refl c.finite_verdict-in-U64.ensures)
