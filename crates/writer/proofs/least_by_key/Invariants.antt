-- `writer::least_by_key` meets its contract. The invariant: the place is that of the last box that was read, and of the
-- boxes from `first` to it both patterns are the best. Assumes nothing.
use Prim.Native.Nat.{suc, ◌+◌, ◌-◌, ◌*◌, ◌≤◌, ◌<◌}
use mathlib.Core.Path.{◌≡◌}
use Rattle.ranges.specs.Ranges.{ends_at}
use Rattle.writer.specs.Code.Rows.{lowest_of, highest_of}
use Rattle.writer.proofs.least_by_key.Given as goal

abbrev pub invariant-loop-k : goal.invariant-loop-k
invariant-loop-k l =
    (l.first < l.k)
    × (l.k ≤ l.k-end)
    × (l.at + l.box_bytes ≡ l.k * l.box_bytes + l.side)
    × (l.low ≡ (ends_at l.kind l.level (lowest_of l.kind l.level l.box_bytes l.side l.first (l.k - suc l.first) * l.box_bytes + l.side)).low)
    × (l.high ≡ (ends_at l.kind l.level (highest_of l.kind l.level l.box_bytes l.side l.first (l.k - suc l.first) * l.box_bytes + l.side)).high)
