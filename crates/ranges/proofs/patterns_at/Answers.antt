-- `ranges::patterns_at` meets its contract: two patterns of the kind's width, one after the other. Assumes nothing.
use Rattle.ranges.specs.Ranges.{ends_at}
use Rattle.ranges.proofs.Reading.{four_bytes-kinds, eight_bytes-kinds}
use Rattle.ranges.proofs.patterns_at.Goals as goal

pub returns-in-Int32 : goal.returns-in-Int32
unfolding ends_at
returns-in-Int32 c =
    let e = c.pair_at-ends.ensures in
    rw (four_bytes-kinds c.args.kind c.in-Int32.is) (record { low_value = e.0; high_value = e.1 })

pub returns-in-Int64 : goal.returns-in-Int64
unfolding ends_at
returns-in-Int64 c =
    let e = c.pair_at-ends-in-Int64.ensures in
    rw (eight_bytes-kinds c.args.kind c.in-Int64.is) (record { low_value = e.0; high_value = e.1 })
