-- `c_arguments::dimensions_of` meets its contract: the four in turn. Assumes nothing.
use Rattle.answers.specs.Runs.{over}
use Rattle.c_arguments.specs.Described.{numbered_dimensions}
use Rattle.c_arguments.proofs.dimensions_of.Goals as goal

pub returns : goal.returns
unfolding numbered_dimensions over
returns c =
    let fourth = c in
    let third = fourth in
    let second = third in
    let first = second in
    rw (
      c.of-d.ensures,
      fourth.byte_at-4.ensures,
      fourth.of-c.ensures,
      third.byte_at-3.ensures,
      third.of-b.ensures,
      second.byte_at-2.ensures,
      second.of-a.ensures,
      first.byte_at.ensures,
    )
