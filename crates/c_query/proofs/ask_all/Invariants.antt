-- `c_query::ask_all` meets its contract. The invariant: after i windows the places used, the buffer and the answer run are what the batch has after i
-- windows. Assumes nothing.
use Prim.Native.Nat.{◌*◌}
use mathlib.Core.Path.{◌≡◌}
use mathlib.Core.List.{◌++◌}
use lib.ListN.{length, drop}
use Rattle.answers.specs.Runs.{join}
use Rattle.batch.specs.Code.Run.{used_at, buffer_at}
use Rattle.c_query.specs.Lent.{windows_of, record_at}
use Rattle.c_query.proofs.ask_all.Given as goal

abbrev pub invariant-loop-i : goal.invariant-loop-i
invariant-loop-i l =
    let ws = windows_of l.d l.window_kinds l.windows l.count in
    (l.used ≡ used_at l.d l.tiles l.tree ws (length l.initial.out) l.i)
    × ((l.out ≡ buffer_at l.d l.tiles l.tree ws l.initial.out l.i)
    × (l.answers ≡ join (record_at l.d l.tiles l.tree ws (length l.initial.out)) 0 l.i ++ drop (5 * l.i) l.initial.answers))
