-- `c_arguments::window_of` meets its contract: the sides in turn, over what is read. Assumes nothing.
use Rattle.answers.specs.Runs.{over}
use Rattle.c_arguments.specs.Windows.{window_of_bytes}
use Rattle.c_arguments.proofs.window_of.Goals as goal

pub returns : goal.returns
unfolding window_of_bytes over
returns c =
    let s3 = c in
    let s2 = s3 in
    let s1 = s2 in
    let r = s1 in
    rw (
      c.side_or_other-d.ensures,
      s3.side_or_other-c.ensures,
      s2.side_or_other-b.ensures,
      s1.side_or_other-a.ensures,
      r.read_box-read.ensures,
      r.dimensions_of-dims.ensures,
    )
