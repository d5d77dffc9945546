-- `writer::least_f64` meets its contract. The invariant: the place is that of the last box that was read, and of the
-- boxes from `first` to it both values are the best, by the laws of `Floats.antt`. Assumes nothing.
use Prim.Native.Nat.{suc, ◌+◌, ◌-◌, ◌*◌, ◌≤◌, ◌<◌}
use mathlib.Core.Path.{◌≡◌}
use lib.Ieee.{binary64, of_bits}
use Rattle.description.specs.declared.Kind.TheVariants.{Float64}
use Rattle.ranges.specs.Ranges.{ends_at}
use Rattle.writer.specs.Code.Rows.{lowest_of, highest_of}
use Rattle.writer.proofs.least_f64.Given as goal

abbrev pub invariant-loop-k : goal.invariant-loop-k
invariant-loop-k l =
    (l.first < l.k)
    × (l.k ≤ l.k-end)
    × (l.at + l.box_bytes ≡ l.k * l.box_bytes + l.side)
    × (l.low ≡ of_bits binary64 (ends_at Float64 l.level (lowest_of Float64 l.level l.box_bytes l.side l.first (l.k - suc l.first) * l.box_bytes + l.side)).low)
    × (l.high ≡ of_bits binary64 (ends_at Float64 l.level (highest_of Float64 l.level l.box_bytes l.side l.first (l.k - suc l.first) * l.box_bytes + l.side)).high)
