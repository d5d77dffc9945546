-- `tile_runs::cells_at` meets its contract. The invariant: what is still to be told, over what stands in the buffer
-- now, is all of it over what stood there first. Assumes nothing.
use mathlib.Core.Path.{◌≡◌}
use mathlib.Core.List.{[], ◌∷◌}
use Prim.Native.Nat.{◌/◌, min}
use lib.ListN.{length, get_or}
use Rattle.footer.specs.Answer.{cells_of}
use Rattle.tile_runs.proofs.Told.{Told}
use Rattle.tile_runs.proofs.cells_at.Given as goal

abbrev pub invariant-loop-k : goal.invariant-loop-k
invariant-loop-k l =
    (l.count ≡ min (length l.run) (length l.initial.out / 1))
    × Told 1 (λ j. cells_of l.tiles l.last l.capacity (get_or l.run j 0) ∷ []) l.count l.initial.out l.out l.k
