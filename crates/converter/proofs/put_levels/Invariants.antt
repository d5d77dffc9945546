-- `converter::put_levels` meets its contract. The invariant: the buffer holds the first l levels, and both places are
-- where level l starts. Assumes nothing.
use Prim.Native.Nat.{◌+◌, ◌≤◌}
use mathlib.Core.Path.{◌≡◌}
use lib.ListN.{length}
use lib.Seq.{sets}
use Rattle.footer.specs.Fields.{tiles_of}
use Rattle.rtree.specs.Body.{fanout_of}
use Rattle.widened.specs.Widened.{widened_at}
use Rattle.converter.proofs.Levels.{levels_size, levels_to}
use Rattle.converter.proofs.put_levels.Given as goal

abbrev pub invariant-loop-l : goal.invariant-loop-l
invariant-loop-l l =
    (l.l ≤ l.depth)
    × (l.from ≡ 8 + levels_size (fanout_of l.body) (tiles_of l.description l.footer) l.old l.l)
    × (l.at ≡ 8 + levels_size (fanout_of l.body) (tiles_of l.description l.footer) l.wide l.l)
    × (length l.out ≡ length l.initial.out)
    × (l.out ≡ sets l.initial.out 8 (levels_to (fanout_of l.body) (tiles_of l.description l.footer) (widened_at l.description (tiles_of l.description l.footer) l.body) l.l))
